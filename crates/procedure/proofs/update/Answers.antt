-- `procedure::update` meets its contract: one law for each way out; where the lift may be dropped, the growths have a sum above 0. Assumes nothing.
use mathlib.Core.Path.{◌∙◌}
use Rattle.weights.proofs.Rows.{moves_G}
use Rattle.procedure.proofs.Answers.{stays, kept, moved, update_short}
use Rattle.procedure.proofs.update.Goals as goal

pub returns-then-weight-clause-value : goal.returns-then-weight-clause-value
returns-then-weight-clause-value c = stays _ _ _ _ _ c.weight_at-weight.ensures c.if-weight.true

pub returns-in_err-r-clause-value : goal.returns-in_err-r-clause-value
returns-in_err-r-clause-value c =
    rw c.from_residual.ensures (update_short _ _ _ _ _ c.weight_at-weight.ensures c.if-weight.false _ c.draw.ensures.value c.in_err-r.was)

pub returns-then-r-weight-clause-value : goal.returns-then-r-weight-clause-value
returns-then-r-weight-clause-value c =
    kept _ _ _ _ _ c.weight_at-weight.ensures c.if-weight.false _ c.draw.ensures.value c.in_ok-r.was c.if-r-weight.true

pub draw_lift-requires : goal.draw_lift-requires
draw_lift-requires c = moves_G c.requires.balanced c.requires.place_in_bounds c.weight_at-weight.ensures c.if-weight.false

pub returns-clause-value : goal.returns-clause-value
returns-clause-value c =
    (rw c.draw.ensures.list at c.draw_lift.ensures.value)
    ∙ moved _ _ _ _ _ c.weight_at-weight.ensures c.if-weight.false _ c.draw.ensures.value c.in_ok-r.was c.if-r-weight.false
