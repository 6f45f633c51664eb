-- `survey::examine` meets its contract: one law for each way out: a refusal of the words, one of the rounds, a sheet that fits. Assumes nothing.
use mathlib.Core.Path.{ap}
use Rattle.sheet.proofs.Legibility.{words_legible}
use Rattle.tally.proofs.Verdicts.{at_word, at_rounds}
use Rattle.std.proofs.lemmas.Result.{err_from_is_err_and}
use Rattle.survey.proofs.examine.Goals as goal

pub returns-in_err-sheet-clause-said : goal.returns-in_err-sheet-clause-said
returns-in_err-sheet-clause-said c =
    let p = err_from_is_err_and c.from_residual.result c.from_residual.ensures.1 in
    rw (p.1, p.2) (at_word _ _ c.in_err-sheet.ensures.reading)

pub returns-in_err-counts-clause-said : goal.returns-in_err-counts-clause-said
returns-in_err-counts-clause-said c =
    let p = err_from_is_err_and c.from_residual-in_err-counts.result c.from_residual-in_err-counts.ensures.1 in
    rw (p.1, p.2, ← ap (λ w. w.now) c.in_ok-sheet.ensures.same) (at_rounds _ _ (words_legible c.in_ok-sheet.sheet.legible) c.in_err-counts.ensures)

pub invariant_of-result-clause-judged : goal.invariant_of-result-clause-judged
invariant_of-result-clause-judged c = at_rounds _ _ (words_legible c.in_ok-sheet.sheet.legible) c.in_ok-counts.ensures
