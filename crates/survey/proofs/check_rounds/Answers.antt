-- `survey::check_rounds` meets its contract: each search that finds nothing leaves the refusals from the next on, and the first that finds a round gives its refusal. Assumes nothing.
use mathlib.Core.Path.{◌≡◌, sym, ap₂, ◌∙◌}
use mathlib.Core.Bool.{not, ◌&&◌}
use lib.Dec.{eqb, ltb}
use Rattle.std.proofs.Common.{rules}
use Rattle.sheet.specs.Sheet.{largest_sum, lifts}
use Rattle.sheet.specs.Lift.{Old, New}
use Rattle.tally.specs.Rounds.{rounds}
use Rattle.tally.specs.Tables.{found_first}
use Rattle.tally.specs.Verdict.{fits, not_one_held, oversize, zero_sum}
use Rattle.tally.proofs.Adding.{old_none, new_none}
use Rattle.tally.proofs.Verdicts.{old_tested, new_tested, in_use_lem, at_not_one_held, at_old, at_new, at_zero_sum, at_last}
use Rattle.survey.proofs.check_rounds.Goals as goal
use Rattle.survey.proofs.check_rounds.Goals.{After-first_round, After-first_round-2, After-first_round-3, After-first_round-4}

-- what each search finds
held : (c : After-first_round) → c.first_round.result ≡ found_first (rounds (not_one_held (lifts c.args.sheet.words.now)))
held c =
    c.first_round.ensures (λ o. ltb 0 o.lifts && not (eqb o.held 1)) (λ x b h. let m = h.says.met in rw (← h.shows) (search rules)) old_none
    ∙ old_tested (λ o. ltb 0 o.lifts && not (eqb o.held 1)) c.requires

old : (c : After-first_round-2) → c.first_round-2.result ≡ found_first (rounds (oversize Old (lifts c.args.sheet.words.now)))
old c =
    c.first_round-2.ensures (λ o. ltb largest_sum o.sum) (λ x b h. let m = h.says.met in rw (← h.shows) (search rules)) old_none
    ∙ old_tested (λ o. ltb largest_sum o.sum) c.requires

new : (c : After-first_round-3) → c.first_round-3.result ≡ found_first (rounds (oversize New (lifts c.args.sheet.words.now)))
new c =
    c.first_round-3.ensures (λ n. ltb largest_sum n.sum) (λ x b h. let m = h.says.met in rw (← h.shows) (search rules)) new_none
    ∙ new_tested (λ n. ltb largest_sum n.sum) c.requires

measured : (c : After-first_round-4) → c.first_round-4.result ≡ found_first (rounds (zero_sum (lifts c.args.sheet.words.now)))
measured c =
    c.first_round-4.ensures (λ n. ltb 0 n.lifts && eqb n.sum 0) (λ x b h. let m = h.says.met in rw (← h.shows) (search rules)) new_none
    ∙ new_tested (λ n. ltb 0 n.lifts && eqb n.sum 0) c.requires

pub returns-in-Some : goal.returns-in-Some
returns-in-Some c = at_not_one_held (lifts c.args.sheet.words.now) (sym c.in-Some.is ∙ held (goal.at.returns-in-Some c).After-first_round)

pub returns-in-Some-first_round : goal.returns-in-Some-first_round
returns-in-Some-first_round c =
    let at = goal.at.returns-in-Some-first_round c in
    at_old (lifts c.args.sheet.words.now) (sym c.in_default.is ∙ held at.After-first_round) (sym c.in-Some-first_round.is ∙ old at.After-first_round-2)

pub returns-in-Some-first_round-2 : goal.returns-in-Some-first_round-2
returns-in-Some-first_round-2 c =
    let at = goal.at.returns-in-Some-first_round-2 c in
    at_new (lifts c.args.sheet.words.now)
    (sym c.in_default.is ∙ held at.After-first_round)
    (sym c.in_default-first_round.is ∙ old at.After-first_round-2)
    (sym c.in-Some-first_round-2.is ∙ new at.After-first_round-3)

pub returns-in-Some-first_round-3 : goal.returns-in-Some-first_round-3
returns-in-Some-first_round-3 c =
    let at = goal.at.returns-in-Some-first_round-3 c in
    at_zero_sum (lifts c.args.sheet.words.now)
    (sym c.in_default.is ∙ held at.After-first_round)
    (sym c.in_default-first_round.is ∙ old at.After-first_round-2)
    (sym c.in_default-first_round-2.is ∙ new at.After-first_round-3)
    (sym c.in-Some-first_round-3.is ∙ measured at.After-first_round-4)

pub returns : goal.returns
returns c =
    let at = goal.at.returns c in
    ap₂ fits c.size.ensures (in_use_lem (lifts c.args.sheet.words.now) c.requires.new c.in_use.ensures.entries)
    ∙ at_last (lifts c.args.sheet.words.now)
    (sym c.in_default.is ∙ held at.After-first_round)
    (sym c.in_default-first_round.is ∙ old at.After-first_round-2)
    (sym c.in_default-first_round-2.is ∙ new at.After-first_round-3)
    (sym c.in_default-first_round-3.is ∙ measured at.After-first_round-4)
