-- `panel::choose_next_fitting` meets its contract: what is lacking is answered, and where nothing is, all outputs are the panel's. Assumes
-- nothing.
use native.Mathlib.Omega.{arith}
use Prim.Native.Nat.{ℕ, ◌*◌, ◌+◌, ◌≤◌}
use mathlib.Core.Path.{◌∙◌}
use lib.ListN.{length}
use Rattle.std.proofs.lemmas.Result.{err_from_is_err_and}
use Rattle.sheet.specs.Sheet.{lifts}
use Rattle.tally.specs.Rounds.{in_use}
use Rattle.sheet.specs.Lift.{New}
use Rattle.tally.proofs.Verdicts.{fit}
use Rattle.reply.specs.declared.Refusal.TheVariants.{Next}
use Rattle.carry.specs.Next.{words_needed}
use Rattle.carry.proofs.Writing.{remaining_fit}
use Rattle.selection.specs.Choice.{fourth, panel}
use Rattle.selection.proofs.Choices.{few_rounds}
use Rattle.picks.specs.Choosing.{Behind}
use Rattle.panel.proofs.Answers.{Gathered, gathered, ended, onward, replied_all, writable, written_all, suffices, counted}
use Rattle.panel.proofs.Nexts.{both_refused, room, carried_all, carried_ended, cramped, through_next}
use Rattle.panel.proofs.choose_next_fitting.Goals as goal
use Rattle.panel.proofs.choose_next_fitting.Goals.{In_ok-lacking, In_ok-picks}

-- neither words nor output are lacking
nothing : (c : In_ok-lacking) → let a = c.args in (a.start ≤ length a.words.now) × (2 * length (in_use New (lifts a.fitting.now.sheet.words.now)) ≤ length a.out.now)
nothing c = let a = c.args in
    suffices (length (in_use New (lifts a.fitting.now.sheet.words.now))) (length a.words.now) a.start (length a.out.now)
    (rw (counted a.fitting.now.sheet.words.now a.fitting.now.judged) at c.in_ok-lacking.ensures)

-- the choices are the panel's
chosen : (c : In_ok-picks) {at : ℕ} → let a = c.args in let r = c.new-reader.result in
    Behind (panel fourth (lifts a.fitting.now.sheet.words.now) r.words.now r.at) at → Gathered fourth (lifts a.fitting.now.sheet.words.now) a.words.now a.start c.in_ok-picks.picks at
chosen c b = let r = c.new-reader.ensures in gathered fourth _ _ _ (rw (r.list, r.position) at c.in_ok-picks.ensures.picked) (rw (r.list, r.position) at b)

pub lacking-requires : goal.lacking-requires
lacking-requires c = rw (counted c.args.fitting.now.sheet.words.now c.args.fitting.now.judged) (few_rounds (lifts c.args.fitting.now.sheet.words.now))

pub returns-in_err-lacking : goal.returns-in_err-lacking
returns-in_err-lacking c =
    let p = err_from_is_err_and c.from_residual.result c.from_residual.ensures.1 in
    let e = rw (counted c.args.fitting.now.sheet.words.now c.args.fitting.now.judged) at c.in_err-lacking.ensures in
    let q = both_refused _ c.args.out.now _ c.args.next.now _ (e _) in
    record { replied = rw (p.1, p.2) q.0; written = q.1.0; carried = q.1.1 }

pub overflow_mul-space : goal.overflow_mul-space
overflow_mul-space c = omega (arith, c.remaining-lifts.ensures, remaining_fit c.args.fitting.now.fitting.legible)

pub overflow_add-space : goal.overflow_add-space
overflow_add-space c = omega (arith, c.remaining-lifts.ensures, remaining_fit c.args.fitting.now.fitting.legible, counted c.args.fitting.now.sheet.words.now c.args.fitting.now.judged, few_rounds (lifts c.args.fitting.now.sheet.words.now))

pub overflow_add-space-2 : goal.overflow_add-space-2
overflow_add-space-2 c = omega (arith, c.remaining-lifts.ensures, remaining_fit c.args.fitting.now.fitting.legible, counted c.args.fitting.now.sheet.words.now c.args.fitting.now.judged, few_rounds (lifts c.args.fitting.now.sheet.words.now))

pub returns-then-next-space : goal.returns-then-next-space
returns-then-next-space c =
    let a = c.args in
    let n = counted c.args.fitting.now.sheet.words.now c.args.fitting.now.judged in
    let e = cramped (lifts a.fitting.now.sheet.words.now) a.words.now a.start a.out.now a.next.now _ (nothing (goal.at.returns-then-next-space c).In_ok-lacking) c.remaining-lifts.ensures (rw n at c.if-next-space.true) in
    let q = both_refused (Next (3 * c.remaining-lifts.result + length (in_use New (lifts a.fitting.now.sheet.words.now)) + 1)) a.out.now _ a.next.now _ e in
    record { replied = rw n q.0; written = q.1.0; carried = q.1.1 }

pub returns-in_err-picks : goal.returns-in_err-picks
returns-in_err-picks c =
    let a = c.args in
    let p = err_from_is_err_and c.from_residual-in_err-picks.result c.from_residual-in_err-picks.ensures.1 in
    let r = c.new-reader.ensures in
    let d = rw (r.list, r.position) at c.in_err-picks.ensures.picked in
    let e = ended fourth (lifts a.fitting.now.sheet.words.now) a.words.now a.start d a.out.now in
    let n = counted c.args.fitting.now.sheet.words.now c.args.fitting.now.judged in
    let q = through_next (lifts a.fitting.now.sheet.words.now) a.words.now a.start a.out.now a.next.now c.remaining-lifts.result (nothing (goal.at.returns-in_err-picks c).In_ok-lacking) c.remaining-lifts.ensures
    (rw n at c.if-next-space.false) e.0 e.1 (carried_ended (lifts a.fitting.now.sheet.words.now) a.words.now a.start d a.next.now) in
    record { replied = rw (p.1, p.2) q.0; written = q.1.0; carried = q.1.1 }

pub write-requires-clause-sheet_in_bounds : goal.write-requires-clause-sheet_in_bounds
write-requires-clause-sheet_in_bounds c =
    let h : words_needed (lifts c.args.fitting.now.sheet.words.now) (length (in_use New (lifts c.args.fitting.now.sheet.words.now))) ≤ length c.args.next.now
    = rw (← c.remaining-lifts.ensures, ← counted c.args.fitting.now.sheet.words.now c.args.fitting.now.judged) c.if-next-space.false in
    room (fit c.args.fitting.now.fitting) _ _ (chosen (goal.at.write-requires-clause-sheet_in_bounds c).In_ok-picks c.in_ok-picks.ensures.behind) h

pub write_pairs-requires : goal.write_pairs-requires
write_pairs-requires c =
    writable _ _ _ _ (chosen (goal.at.write_pairs-requires c).In_ok-picks c.in_ok-picks.ensures.behind) (fit c.args.fitting.now.fitting) _ (nothing (goal.at.write_pairs-requires c).In_ok-lacking).1

pub overflow_sub-result : goal.overflow_sub-result
overflow_sub-result c = onward _ _ _ _ (chosen (goal.at.overflow_sub-result c).In_ok-picks c.in_ok-picks.ensures.behind)

pub returns : goal.returns
returns c =
    let a = c.args in
    let d = chosen (goal.at.returns c).In_ok-picks c.in_ok-picks.ensures.behind in
    let n = counted c.args.fitting.now.sheet.words.now c.args.fitting.now.judged in
    let f = fit c.args.fitting.now.fitting in
    let q = through_next (lifts a.fitting.now.sheet.words.now) a.words.now a.start a.out.now a.next.now c.remaining-lifts.result (nothing (goal.at.returns c).In_ok-lacking) c.remaining-lifts.ensures
    (rw n at c.if-next-space.false) (replied_all _ _ _ _ d n) (c.write_pairs.ensures ∙ written_all _ _ _ _ d f a.out.now) (c.write.ensures ∙ carried_all f _ _ d a.next.now) in
    record { replied = q.0; written = q.1.0; carried = q.1.1 }
