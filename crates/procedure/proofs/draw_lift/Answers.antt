-- `procedure::draw_lift` meets its contract: the run of one draw, by the two cases of its answer. Assumes nothing.
use Rattle.procedure.proofs.Answers.{drawn, drawn_short}
use Rattle.procedure.proofs.draw_lift.Goals as goal

pub returns-in_err-q-clause-value : goal.returns-in_err-q-clause-value
returns-in_err-q-clause-value c = rw c.from_residual.ensures (drawn_short _ _ _ _ _ c.growth_sum.ensures _ c.draw.ensures.value c.in_err-q.was)

pub returns-clause-value : goal.returns-clause-value
returns-clause-value c = drawn _ _ _ _ _ c.growth_sum.ensures _ c.draw.ensures.value c.in_ok-q.was c.pick-place.ensures
