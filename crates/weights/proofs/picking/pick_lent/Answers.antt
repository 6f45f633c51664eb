-- `weights::picking::pick_lent` meets its contract: what it lends are the lifts of the round. Assumes nothing.
use native.Mathlib.Omega.{arith}
use Prim.Native.Nat.{◌≤◌}
use mathlib.Core.Path.{ap}
use lib.ListN.{length, length-map}
use Rattle.weights.specs.Scaling.{block_length}
use Rattle.weights.proofs.picking.pick_lent.Goals as goal
use Rattle.weights.proofs.picking.pick_lent.Goals.{After-rows_of-rows}

few : (c : After-rows_of-rows) → length c.rows_of-rows.result.now ≤ block_length
few c = omega (arith, c.requires, rw length-map at (ap length c.rows_of-rows.ensures))

pub gathered-lifts-requires : goal.gathered-lifts-requires
gathered-lifts-requires c = few (goal.at.gathered-lifts-requires c).After-rows_of-rows

pub pick-requires : goal.pick-requires
pick-requires c = rw (c.gathered-lifts.ensures, c.rows_of-rows.ensures) c.args.block.now.fits

pub returns : goal.returns
returns c = rw (c.gathered-lifts.ensures, c.rows_of-rows.ensures) at c.pick.ensures
