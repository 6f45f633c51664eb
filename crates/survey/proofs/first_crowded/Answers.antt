-- `survey::first_crowded` meets its contract: the test is that of a new round. Assumes nothing.
use mathlib.Core.Bool.{◌&&◌}
use lib.Dec.{leb, ltb}
use Rattle.std.proofs.Common.{rules}
use Rattle.tally.specs.Tables.{donor_count}
use Rattle.survey.proofs.first_crowded.Goals as goal

pub returns : goal.returns
returns c = c.first_round.ensures (λ n. ltb 0 n.lifts && leb 3 (donor_count n.donors)) (λ x b h. let m = h.says.met in rw (← h.shows) (search rules))
