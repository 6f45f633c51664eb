-- `panel::choose_by` meets its contract: a sheet that is refused, and one that fits. Assumes nothing.
use mathlib.Core.Path.{ap}
use Rattle.std.proofs.lemmas.Result.{err_from_is_err_and}
use Rattle.selection.specs.Choice.{by_update}
use Rattle.panel.proofs.Answers.{fitting_counts, at_sheet, at_fitting}
use Rattle.panel.proofs.choose_by.Goals as goal

pub returns-in_err-fitting : goal.returns-in_err-fitting
returns-in_err-fitting g c =
    let a = c.args in
    let p = err_from_is_err_and c.from_residual.result c.from_residual.ensures.1 in
    let q = at_sheet (by_update g.W.Way.update) a.sheet.now a.words.now a.start a.out.now c.in_err-fitting.ensures.said in
    record { replied = rw (p.1, p.2) q.0; written = q.1 }

pub returns : goal.returns
returns g c =
    let a = c.args in
    let r = rw (ap (λ w. w.now) c.in_ok-fitting.ensures.same) at c.choose_fitting.ensures in
    let q = at_fitting (by_update g.W.Way.update) a.sheet.now a.words.now a.start a.out.now (fitting_counts a.sheet.now c.in_ok-fitting.ensures.said) r.replied r.written in
    record { replied = q.0; written = q.1 }
