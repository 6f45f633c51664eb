use native.Mathlib.Omega.{arith}
use lib.ListN.{length-set}
use Rattle.weights.proofs.Blocks.{gather_turn}
use Rattle.weights.proofs.picking.gathered.Goals as goal

pub loop-i-preserved : goal.loop-i-preserved
loop-i-preserved c = record { long = rw length-set c.loop-i.invariant.long; same = gather_turn c.loop-i.block c.args.rows.now (omega (arith, c.requires, c.loop-i.invariant.long, c.loop-i-test.true)) c.loop-i-test.true c.from.ensures c.loop-i.invariant.same }
