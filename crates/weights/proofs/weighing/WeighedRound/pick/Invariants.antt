-- `weights::WeighedRound::pick` meets its contract: in the rows left, what is left of the position falls where the position falls in the whole. Assumes nothing.
use Rattle.std.proofs.Common.{◌≡◌, map, ◌*◌}
use Rattle.std.specs.Slice.Iter.{chunks_rest, chunks_size}
use Rattle.probability.specs.Interval.{pick}
use Rattle.round.specs.Round.{growth}
use Rattle.round.specs.Rows.{row_length}
use Rattle.weights.specs.Scaling.{weights_by, block_length}
use Rattle.weights.proofs.Blocks.{BlockSought}
use Rattle.weights.proofs.weighing.WeighedRound.pick.Given as goal

abbrev pub invariant-loop-rows : goal.invariant-loop-rows
invariant-loop-rows l = record {
  size : chunks_size l.rows-iterator ≡ row_length * block_length;
  sought : BlockSought l.self.scale l.self.rows.now (chunks_rest l.rows-iterator) (pick (map growth (weights_by l.self.scale l.self.rows.now)) l.q) l.left l.start;
}
