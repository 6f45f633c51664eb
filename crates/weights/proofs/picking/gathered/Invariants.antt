-- `weights::picking::gathered` meets its contract: the lifts of the rows passed stand at the start of the block. Assumes nothing.
use Rattle.std.proofs.Common.{◌≡◌, map, take, length}
use Rattle.round.specs.Rows.{row_lift}
use Rattle.weights.specs.Scaling.{block_length}
use Rattle.weights.proofs.picking.gathered.Given as goal

abbrev pub invariant-loop-i : goal.invariant-loop-i
invariant-loop-i l = record { long : length l.block ≡ block_length; same : take l.i l.block ≡ map row_lift (take l.i l.rows) }
