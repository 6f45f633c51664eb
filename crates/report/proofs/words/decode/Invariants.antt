-- The words of the first chunks are stored.
use Rattle.std.proofs.Common.{◌≡◌, map, take}
use Rattle.report.proofs.words.decode.Given as goal

abbrev pub invariant-loop-i : goal.invariant-loop-i
invariant-loop-i g l = take l.i l.room ≡ map g.W.Word.of_bytes (take l.i l.chunk-items)
