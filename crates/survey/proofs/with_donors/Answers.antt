-- `survey::with_donors` meets its contract: a refusal up to 9 stays, else refusal 10, or an answer that still fits. Assumes nothing.
use mathlib.Core.Path.{◌≡◌}
use Rattle.std.specs.Prelude.{None}
use Rattle.tally.specs.Verdict.{fits, verdict}
use Rattle.tally.proofs.Adding.{new_none}
use Rattle.tally.proofs.Verdicts.{still_refused, at_too_many_donors, still_fits, judged_fits}
use Rattle.std.proofs.lemmas.Result.{err_from_is_err_and}
use Rattle.survey.proofs.with_donors.Goals as goal
use Rattle.survey.proofs.with_donors.Goals.{After-first_crowded}

-- with no such round, the sheet fits
last : (c : After-first_crowded) → c.first_crowded.result ≡ None → fits c.in_ok-e.e.counts.lifts c.in_ok-e.e.counts.rounds ≡ verdict c.in_ok-e.e.sheet.words.now
last c n = still_fits _ c.in_ok-e.e.judged c.in_ok-e.e.tabled (c.first_crowded.ensures new_none) n

pub returns-in_err-e-clause-said : goal.returns-in_err-e-clause-said
returns-in_err-e-clause-said c = λ ws a h.
    let p = err_from_is_err_and c.from_residual.result c.from_residual.ensures.1 in
    rw (p.1, p.2) (still_refused ws _ (rw c.in_err-e.was at a))

pub returns-in-Some-clause-said : goal.returns-in-Some-clause-said
returns-in-Some-clause-said c = λ ws a h.
    let e = c.in_ok-e.e in
    rw (← rw c.in_ok-e.was at h) (at_too_many_donors _ e.judged e.tabled (c.first_crowded.ensures new_none) c.in-Some.is)

pub returns-clause-said : goal.returns-clause-said
returns-clause-said c = λ ws a h. rw (← rw c.in_ok-e.was at h) (last (goal.at.returns-clause-said c).After-first_crowded c.in_default.is)

pub invariant_of-result-clause-judged : goal.invariant_of-result-clause-judged
invariant_of-result-clause-judged c = last (goal.at.invariant_of-result-clause-judged c).After-first_crowded c.in_default.is

pub invariant_of-result-clause-fitting : goal.invariant_of-result-clause-fitting
invariant_of-result-clause-fitting c = judged_fits _ (last (goal.at.invariant_of-result-clause-fitting c).After-first_crowded c.in_default.is)
