-- `weights::WeighedRound::growth_sum` meets its contract: G is the sum over the rows. Assumes nothing.
use native.Mathlib.Omega.{arith}
use Prim.Native.Nat.{◌<◌, ◌^◌}
use Rattle.std.proofs.Common.{rules}
use Rattle.std.proofs.iter.Serving.{serving}
use Rattle.std.specs.List.{sum_by, All}
use Rattle.round.specs.Rows.{row_lift}
use Rattle.weights.specs.Scaling.{LiftWeightsFit}
use Rattle.weights.proofs.Rows.{row_growth, rows_G, G_fits, rows_room}
use Rattle.weights.proofs.weighing.WeighedRound.growth_sum.Goals as goal

pub sum-requires-clause-can : goal.sum-requires-clause-can
sum-requires-clause-can c =
    let room : All (λ row. LiftWeightsFit c.args.self.now.scale (row_lift row)) c.rows_of.result.now = rows_room _ c.rows_of.ensures c.args.self.now.fits in
    grind serving

pub sum-requires-clause-fits : goal.sum-requires-clause-fits
sum-requires-clause-fits c =
    let fits : sum_by (row_growth c.args.self.now.scale) c.rows_of.result.now < 2 ^ 64 = omega (arith, rows_G c.args.self.now.scale _ c.rows_of.ensures, G_fits c.args.self.now.fits) in
    search rules

pub returns : goal.returns
returns c = rw (rows_G c.args.self.now.scale _ c.rows_of.ensures) (search rules)
