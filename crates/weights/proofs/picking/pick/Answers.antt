use Rattle.weights.proofs.Blocks.{grows, grows_map, seek_turn, seek_here, seek_end}
use Rattle.weights.proofs.Rows.{lift_room}
use Rattle.weights.proofs.picking.pick.Goals as goal

pub weight-requires : goal.weight-requires
weight-requires c = lift_room c.requires c.loop-i-test.true

pub returns-then-left-w : goal.returns-then-left-w
returns-then-left-w c = rw (grows_map c.args.s) (seek_here (grows c.args.s) _ _ c.loop-i-test.true (rw c.weight.ensures at c.growth-w.ensures) c.if-left-w.true c.loop-i.invariant)

pub loop-i-preserved : goal.loop-i-preserved
loop-i-preserved c = seek_turn (grows c.args.s) _ _ c.loop-i-test.true (rw c.weight.ensures at c.growth-w.ensures) c.if-left-w.false c.loop-i.invariant

pub returns : goal.returns
returns c = rw (grows_map c.args.s) (seek_end c.loop-i-test.false c.loop-i.auto.i-end c.loop-i.invariant)
