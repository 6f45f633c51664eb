-- `survey::donor_count` meets its contract: two counts of 64 bits have room. Assumes nothing.
use native.Mathlib.Omega.{arith}
use lib.Count.{ones-le}
use lib.ListN.{get_or}
use Rattle.survey.proofs.donor_count.Goals as goal

pub overflow_add-result : goal.overflow_add-result
overflow_add-result c = record { fits = omega (arith, ones-le 64 (get_or c.args.words 0 0) (omega arith), ones-le 64 (get_or c.args.words 1 0) (omega arith)) }
