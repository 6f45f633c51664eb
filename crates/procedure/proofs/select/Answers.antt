-- `procedure::select` meets its contract: by the preliminary lift. Assumes nothing.
use Prim.Native.Nat.{◌<◌}
use lib.ListN.{length}
use mathlib.Core.Path.{◌≡◌, ap, ◌∙◌}
use Rattle.std.specs.Prelude.{Some}
use Rattle.round.specs.Rows.{row_lifts}
use Rattle.weights.specs.Scaling.{scale_of, WeightsFit, Balanced}
use Rattle.weights.proofs.Scales.{whole_room, whole_positive}
use Rattle.procedure.proofs.Answers.{on_none, on_place, on_short, on_place_fits, contested}
use Rattle.procedure.proofs.select.Goals as goal
use Rattle.procedure.proofs.select.Goals.{After-scaling-scale, In-Some}

-- the multipliers are those of the round
scale : (c : After-scaling-scale) → let a = c.args in c.scaling-scale.result ≡ scale_of a.round.now.donors (row_lifts a.round.now.rows.now)
scale c = c.scaling-scale.ensures (row_lifts c.args.round.now.rows.now) c.args.round.now.has_sums

pub find_preliminary-requires : goal.find_preliminary-requires
find_preliminary-requires c = contested _ (scale (goal.at.find_preliminary-requires c).After-scaling-scale) c.args.round.now.callable

pub invariant_of-whole : goal.invariant_of-whole
invariant_of-whole c = record { fits = whole_room c.args.round.now.callable.bounded }

pub draw_lift-requires : goal.draw_lift-requires
draw_lift-requires c = whole_positive c.args.round.now.callable.fitting

-- the update can be made
updates : (c : In-Some) → let a = c.args in let ls = row_lifts a.round.now.rows.now in WeightsFit c.scaling-scale.result ls × (Balanced c.scaling-scale.result ls × (c.in-Some.place < length ls))
updates c =
    let a = c.args in
    on_place_fits a.round.now.donors (row_lifts a.round.now.rows.now) _ _ (scale (goal.at.invariant_of-weighed c).After-scaling-scale) a.round.now.held _ _ c.find_preliminary.ensures.value c.args.round.now.callable (c.in_ok-find_preliminary.was ∙ ap Some c.in-Some.is)

pub invariant_of-weighed : goal.invariant_of-weighed
invariant_of-weighed c = record { fits = (updates c).0 }

pub update-requires : goal.update-requires
update-requires c = let u = updates (goal.at.update-requires c).In-Some in record { balanced = u.1.0; place_in_bounds = u.1.1 }

pub returns-in_err-find_preliminary-clause-value : goal.returns-in_err-find_preliminary-clause-value
returns-in_err-find_preliminary-clause-value c = let a = c.args in
    rw c.from_residual.ensures
    (on_short a.round.now.donors (row_lifts a.round.now.rows.now) _ _ (scale (goal.at.returns-in_err-find_preliminary-clause-value c).After-scaling-scale) a.round.now.held _ _ c.find_preliminary.ensures.value c.in_err-find_preliminary.was)

pub returns-in-None-clause-value : goal.returns-in-None-clause-value
returns-in-None-clause-value c = let a = c.args in
    (rw c.find_preliminary.ensures.list at c.draw_lift.ensures.value)
    ∙ on_none a.round.now.donors (row_lifts a.round.now.rows.now) _ _ (scale (goal.at.returns-in-None-clause-value c).After-scaling-scale) a.round.now.held _ _ c.find_preliminary.ensures.value (c.in_ok-find_preliminary.was ∙ ap Some c.in-None.is)

pub returns-in-Some-clause-value : goal.returns-in-Some-clause-value
returns-in-Some-clause-value c = let a = c.args in
    (rw c.find_preliminary.ensures.list at c.update.ensures.value)
    ∙ on_place a.round.now.donors (row_lifts a.round.now.rows.now) _ _ (scale (goal.at.returns-in-Some-clause-value c).After-scaling-scale) a.round.now.held _ _ c.find_preliminary.ensures.value (c.in_ok-find_preliminary.was ∙ ap Some c.in-Some.is)
