use mathlib.Core.Path.{◌≡◌, sym, ap, ◌∙◌}
use native.Mathlib.Omega.{arith}
use Rattle.carry.specs.Next.{in_table}
use Rattle.carry.proofs.Writing.{remaining_fit, words_not, words_held, number_small, writing_first, three_fit, four_fit, writing_three, writing_four, writing_past, end_fits, writing_end}
use Rattle.carry.proofs.write.Goals as goal
use Rattle.carry.proofs.write.Goals.{Then-l-ne0}

-- the lift has a new round
some : (c : Then-l-ne0) → c.in-Some.ensures.steps.lift.new.round ≡ 0 → ⊥
some c e = c.if-l-ne0.true (ap (λ x. x.to) c.in-Some.ensures.steps.read ∙ e)

pub next_words-requires-clause-number_bound : goal.next_words-requires-clause-number_bound
next_words-requires-clause-number_bound c = number_small (in_table c.args.chosen.now) (writing_first (in_table c.args.chosen.now) c.loop-l.invariant c.in-Some.ensures.steps) c.in-Some.ensures.steps.read

pub slice_bounds-words-end : goal.slice_bounds-words-end
slice_bounds-words-end c = three_fit (in_table c.args.chosen.now) (writing_first (in_table c.args.chosen.now) c.loop-l.invariant c.in-Some.ensures.steps) (some (goal.at.slice_bounds-words-end c).Then-l-ne0) c.requires.sheet_in_bounds

pub bounds-next-at : goal.bounds-next-at
bounds-next-at c =
    four_fit (in_table c.args.chosen.now) (writing_first (in_table c.args.chosen.now) c.loop-l.invariant c.in-Some.ensures.steps) (some (goal.at.bounds-next-at c).Then-l-ne0) c.requires.sheet_in_bounds (c.next_words.ensures c.in-Some.ensures.steps.lift c.in-Some.ensures.steps.read)
    (words_held c.args.chosen.now c.in-Some.ensures.steps.lift c.in-Some.ensures.steps.read c.is_chosen.ensures c.if-is_chosen.true)

pub loop-l-preserved-then-is_chosen : goal.loop-l-preserved-then-is_chosen
loop-l-preserved-then-is_chosen c =
    writing_four (in_table c.args.chosen.now) (writing_first (in_table c.args.chosen.now) c.loop-l.invariant c.in-Some.ensures.steps) (some (goal.at.loop-l-preserved-then-is_chosen c).Then-l-ne0) c.requires.sheet_in_bounds (c.next_words.ensures c.in-Some.ensures.steps.lift c.in-Some.ensures.steps.read)
    (words_held c.args.chosen.now c.in-Some.ensures.steps.lift c.in-Some.ensures.steps.read c.is_chosen.ensures c.if-is_chosen.true)

pub loop-l-preserved-else-is_chosen : goal.loop-l-preserved-else-is_chosen
loop-l-preserved-else-is_chosen c =
    writing_three (in_table c.args.chosen.now) (writing_first (in_table c.args.chosen.now) c.loop-l.invariant c.in-Some.ensures.steps) (some (goal.at.loop-l-preserved-else-is_chosen c).Then-l-ne0) c.requires.sheet_in_bounds (c.next_words.ensures c.in-Some.ensures.steps.lift c.in-Some.ensures.steps.read)
    (words_not c.args.chosen.now c.in-Some.ensures.steps.lift c.in-Some.ensures.steps.read c.is_chosen.ensures c.if-is_chosen.false)

pub loop-l-preserved : goal.loop-l-preserved
loop-l-preserved c = writing_past (in_table c.args.chosen.now) (writing_first (in_table c.args.chosen.now) c.loop-l.invariant c.in-Some.ensures.steps) (sym (ap (λ x. x.to) c.in-Some.ensures.steps.read) ∙ c.if-l-ne0.false)

pub overflow_cast-lifts : goal.overflow_cast-lifts
overflow_cast-lifts c = record { fits = omega (arith, c.requires.lifts_value, remaining_fit c.args.sheet.legible) }

pub word-requires-clause-payload_bound : goal.word-requires-clause-payload_bound
word-requires-clause-payload_bound c = omega (arith, c.requires.lifts_value, remaining_fit c.args.sheet.legible)

pub bounds-next-at-2 : goal.bounds-next-at-2
bounds-next-at-2 c = end_fits (in_table c.args.chosen.now) (rw c.in-None.ensures.steps.0 at c.loop-l.invariant) c.requires.sheet_in_bounds

pub returns : goal.returns
returns c = rw c.word.ensures (writing_end (in_table c.args.chosen.now) (rw c.in-None.ensures.steps.0 at c.loop-l.invariant) c.requires.sheet_in_bounds c.requires.lifts_value)
