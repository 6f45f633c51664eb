-- The size is that of what was kept and of what was taken from the file since. The measure is how far the size is from 2^64: each turn
-- but the last reads at least one byte.
use Rattle.std.proofs.Common.{ℕ, ◌+◌, ◌-◌, ◌^◌, ◌≡◌, List, length}
use Rattle.std.specs.Io.KnownBytes.{Consumes}
use Rattle.choose.proofs.reading.count_on.Given as goal

abbrev pub invariant-loop-size : goal.invariant-loop-size
invariant-loop-size g l = (more : List ℕ) × (l.size ≡ l.kept + length more) × Consumes (g.R.Read.remaining l.initial.file) (g.R.Read.remaining l.file) more

abbrev pub decreases-loop-size : goal.decreases-loop-size
decreases-loop-size g l = 2 ^ 64 - l.size
