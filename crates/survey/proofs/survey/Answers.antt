use mathlib.Core.Path.{◌∙◌}
use Rattle.survey.proofs.Surveys.{surveyed_none, fits, surveyed_turn}
use Rattle.survey.proofs.survey.Goals as goal

pub loop-l-init : goal.loop-l-init
loop-l-init c = surveyed_none (c.into_iter-l-iterator.ensures.into_iter_gives ∙ c.lifts-l-items.ensures)

pub add-requires-clause-room : goal.add-requires-clause-room
add-requires-clause-room c = fits c.loop-l.invariant c.in-Some.ensures.steps c.args.sheet.legible

pub loop-l-preserved : goal.loop-l-preserved
loop-l-preserved c =
    let f = c.in-Some.ensures.steps in
    surveyed_turn c.loop-l.invariant f (c.add.ensures _ _ f.read c.loop-l.invariant.tabled)
