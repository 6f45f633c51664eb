-- `panel::choose_next` meets its contract: one law for each way out; the promises of the next sheet are `carries`, demand 3 is `fair`, of
-- Keyfitz's update. Assumes nothing.
use Prim.Native.Nat.{ℕ}
use mathlib.Core.Path.{ap}
use mathlib.Core.List.{List}
use Rattle.std.proofs.lemmas.Result.{err_from_is_err_and}
use Rattle.round.specs.Choice.{keyfitz}
use Rattle.round.proofs.Keyfitz.{keyfitz_exact, keyfitz_staying}
use Rattle.sheet.specs.Sheet.{lifts}
use Rattle.tally.specs.Law.{Fitting}
use Rattle.tally.proofs.Verdicts.{fit}
use Rattle.selection.specs.Choice.{fourth}
use Rattle.selection.specs.Fair.{Fair}
use Rattle.selection.proofs.Fair.{fair}
use Rattle.carry.specs.Law.{CarriesAll}
use Rattle.carry.proofs.Carrying.{carries}
use Rattle.panel.proofs.Answers.{fitting_counts}
use Rattle.panel.proofs.Nexts.{at_sheet, at_fitting}
use Rattle.panel.proofs.choose_next.Goals as goal

-- what is promised of every fitting sheet
promises : (ws : List ℕ) → (Fitting ws → CarriesAll (lifts ws)) × (Fitting ws → Fair fourth (lifts ws))
promises ws = (λ f. carries (lifts ws) (fit f), λ f. fair keyfitz keyfitz_exact keyfitz_staying (lifts ws) (fit f))

pub returns-in_err-fitting : goal.returns-in_err-fitting
returns-in_err-fitting c =
    let a = c.args in
    let p = err_from_is_err_and c.from_residual.result c.from_residual.ensures.1 in
    let q = at_sheet a.sheet.now a.words.now a.start a.out.now a.next.now c.in_err-fitting.ensures.said in
    let s = promises a.sheet.now in
    record { replied = rw (p.1, p.2) q.0; written = q.1.0; carried = q.1.1; carries = s.0; fair = s.1 }

pub returns : goal.returns
returns c =
    let a = c.args in
    let r = rw (ap (λ w. w.now) c.in_ok-fitting.ensures.same) at c.choose_next_fitting.ensures in
    let q = at_fitting a.sheet.now a.words.now a.start a.out.now a.next.now (fitting_counts a.sheet.now c.in_ok-fitting.ensures.said) r.replied r.written r.carried in
    let s = promises a.sheet.now in
    record { replied = q.0; written = q.1.0; carried = q.1.1; carries = s.0; fair = s.1 }
