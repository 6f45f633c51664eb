-- `intake::read_line` meets its contract: one law for each way out: a field, the comma, the ending, the whole line. Assumes nothing.
use Rattle.std.proofs.Common.{rules}
use Rattle.intake.proofs.Texts.{line_no_lift, line_no_comma, line_no_count, line_no_ending, line_whole}
use Rattle.intake.proofs.text.read_line.Goals as goal
use Rattle.intake.proofs.text.read_line.Goals.{in_default-via-then-rest-lt1, in_default-via-else-rest-lt1+in_default-1}

pub returns-in_err-lift : goal.returns-in_err-lift
returns-in_err-lift c = rw c.from_residual.ensures (line_no_lift _ c.in_err-lift.ensures)

pub returns-in_default : goal.returns-in_default
returns-in_default c = line_no_comma c.in_ok-lift.ensures (λ l e. elim c.in_default.branch [ in_default-via-then-rest-lt1 w ↦ search rules | in_default-via-else-rest-lt1+in_default-1 w ↦ search rules ])

pub returns-in_err-count : goal.returns-in_err-count
returns-in_err-count c = rw c.from_residual-in_err-count.ensures (line_no_count c.in_ok-lift.ensures c.in-44.len_at_least (search rules) c.in_err-count.ensures)

pub returns-in_err-rest : goal.returns-in_err-rest
returns-in_err-rest c = rw c.from_residual-in_err-rest.ensures (line_no_ending c.in_ok-lift.ensures c.in-44.len_at_least (search rules) c.in_ok-count.ensures c.in_err-rest.ensures)

pub returns : goal.returns
returns c = line_whole c.in_ok-lift.ensures c.in-44.len_at_least (search rules) c.in_ok-count.ensures c.in_ok-rest.ensures
