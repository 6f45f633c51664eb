-- `report::report` meets its contract: by the three cases of the length.
use mathlib.Core.Path.{sym, ◌∙◌}
use native.Mathlib.Omega.{arith}
use Rattle.report.proofs.Reports.{report_odd, report_long, report_text}
use Rattle.report.proofs.report.Goals as goal

pub returns-then-size-ne0 : goal.returns-then-size-ne0
returns-then-size-ne0 c = c.refused.ensures ∙ sym (report_odd _ _ _ c.if-size-ne0.true)

pub returns-then-size-gt-LONGEST : goal.returns-then-size-gt-LONGEST
returns-then-size-gt-LONGEST c = c.refused-then-size-gt-LONGEST.ensures ∙ sym (report_long _ _ _ c.if-size-ne0.false c.if-size-gt-LONGEST.true)

pub returns : goal.returns
returns c = c.chosen_text.ensures ∙ sym (report_text _ _ _ (omega (arith, c.min-kept.ensures)) c.if-size-ne0.false c.if-size-gt-LONGEST.false)
