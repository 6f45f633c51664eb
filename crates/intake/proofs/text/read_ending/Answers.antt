-- `intake::read_ending` meets its contract: one law for each way out. Assumes nothing.
use Rattle.std.proofs.Common.{rules}
use Rattle.intake.proofs.Texts.{ending_past, ending_lf, ending_crlf, ending_none}
use Rattle.intake.proofs.text.read_ending.Goals as goal
use Rattle.intake.proofs.text.read_ending.Goals.{in_default-via-then-text-lt2+in_default-1, in_default-via-else-text-lt2+in-13+in_default-1, in_default-via-else-text-lt2+in_default-1}

pub returns-in-empty : goal.returns-in-empty
returns-in-empty c = ending_past _ c.in-empty.len_below

pub returns-in-10 : goal.returns-in-10
returns-in-10 c = ending_lf _ (search rules) (search rules)

pub returns-in-13 : goal.returns-in-13
returns-in-13 c = ending_crlf _ (search rules) (search rules) (search rules)

pub returns-in_default : goal.returns-in_default
returns-in_default c = ending_none _ (search rules) (λ e. elim c.in_default.branch [ in_default-via-then-text-lt2+in_default-1 w ↦ search rules | in_default-via-else-text-lt2+in-13+in_default-1 w ↦ search rules | in_default-via-else-text-lt2+in_default-1 w ↦ search rules ]) (λ l e f. elim c.in_default.branch [ in_default-via-then-text-lt2+in_default-1 w ↦ search rules | in_default-via-else-text-lt2+in-13+in_default-1 w ↦ search rules | in_default-via-else-text-lt2+in_default-1 w ↦ search rules ])
