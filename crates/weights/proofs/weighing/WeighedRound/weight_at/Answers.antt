-- `weights::WeighedRound::weight_at` meets its contract: its lift's weights have room. Assumes nothing.
use Rattle.weights.proofs.Rows.{lift_room}
use Rattle.weights.proofs.weighing.WeighedRound.weight_at.Goals as goal

pub weight-requires : goal.weight-requires
weight-requires c = rw c.lift_at.ensures (lift_room c.args.self.now.fits c.requires)
