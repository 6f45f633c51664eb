-- `weights::picking::pick` meets its contract: from lift i on, what is left of the position falls where the position falls in the whole. Assumes nothing.
use mathlib.Core.List.{map}
use Rattle.probability.specs.Interval.{pick}
use Rattle.weights.proofs.Blocks.{PickSought, grows}
use Rattle.weights.proofs.picking.pick.Given as goal

abbrev pub invariant-loop-i : goal.invariant-loop-i
invariant-loop-i l = PickSought (grows l.s) l.lifts (pick (map (grows l.s) l.lifts) l.q) l.left l.i
