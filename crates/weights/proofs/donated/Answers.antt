-- `weights::donated` meets its contract: U is the sum over the rows. Assumes nothing.
use native.Mathlib.Omega.{arith}
use Prim.Native.Nat.{◌<◌, ◌^◌}
use Rattle.std.proofs.Common.{rules}
use Rattle.std.specs.List.{sum_by}
use Rattle.round.specs.Round.{measure_from}
use Rattle.round.specs.Rows.{row_lift}
use Rattle.weights.proofs.Rows.{rows_U}
use Rattle.weights.proofs.donated.Goals as goal

pub sum-requires-clause-fits : goal.sum-requires-clause-fits
sum-requires-clause-fits c =
    let fits : sum_by (λ row. measure_from c.args.k (row_lift row)) c.rows_of.result.now < 2 ^ 64 = omega (arith, rows_U c.args.k _ c.rows_of.ensures, c.requires) in
    search rules

pub returns : goal.returns
returns c = rw (rows_U c.args.k _ c.rows_of.ensures) (search rules)
