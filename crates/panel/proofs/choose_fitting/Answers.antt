-- `panel::choose_fitting` meets its contract: what is lacking is answered, and where nothing is, the choices are the panel's. Assumes nothing.
use Prim.Native.Nat.{ℕ, ◌*◌, ◌≤◌}
use mathlib.Core.Path.{◌∙◌}
use lib.ListN.{length}
use Rattle.std.proofs.lemmas.Result.{err_from_is_err_and}
use Rattle.sheet.specs.Sheet.{lifts}
use Rattle.tally.specs.Rounds.{in_use}
use Rattle.sheet.specs.Lift.{New}
use Rattle.tally.proofs.Verdicts.{fit}
use Rattle.reply.proofs.Replies.{left_refused}
use Rattle.selection.specs.Choice.{by_update, panel}
use Rattle.selection.proofs.Choices.{few_rounds}
use Rattle.picks.specs.Choosing.{Behind}
use Rattle.panel.proofs.Answers.{Gathered, gathered, ended, onward, replied_all, writable, written_all, suffices, counted, through}
use Rattle.panel.proofs.choose_fitting.Goals as goal
use Rattle.panel.proofs.choose_fitting.Given.{Over}
use Rattle.panel.proofs.choose_fitting.Goals.{In_ok-lacking, In_ok-picks}

-- nothing is lacking
nothing : (g : Over) (c : In_ok-lacking g) → let a = c.args in (a.start ≤ length a.words.now) × (2 * length (in_use New (lifts a.fitting.now.sheet.words.now)) ≤ length a.out.now)
nothing g c = let a = c.args in
    suffices (length (in_use New (lifts a.fitting.now.sheet.words.now))) (length a.words.now) a.start (length a.out.now)
    (rw (counted a.fitting.now.sheet.words.now a.fitting.now.judged) at c.in_ok-lacking.ensures)

-- the choices are the panel's
chosen : (g : Over) (c : In_ok-picks g) {at : ℕ} → let a = c.args in let r = c.new-reader.result in
    Behind (panel (by_update g.W.Way.update) (lifts a.fitting.now.sheet.words.now) r.words.now r.at) at
    → Gathered (by_update g.W.Way.update) (lifts a.fitting.now.sheet.words.now) a.words.now a.start c.in_ok-picks.picks at
chosen g c b = let r = c.new-reader.ensures in
    gathered (by_update g.W.Way.update) _ _ _ (rw (r.list, r.position) at c.in_ok-picks.ensures.picked) (rw (r.list, r.position) at b)

pub lacking-requires : goal.lacking-requires
lacking-requires g c = rw (counted c.args.fitting.now.sheet.words.now c.args.fitting.now.judged) (few_rounds (lifts c.args.fitting.now.sheet.words.now))

pub returns-in_err-lacking : goal.returns-in_err-lacking
returns-in_err-lacking g c =
    let p = err_from_is_err_and c.from_residual.result c.from_residual.ensures.1 in
    let e = rw (counted c.args.fitting.now.sheet.words.now c.args.fitting.now.judged) at c.in_err-lacking.ensures in
    let q = left_refused _ c.args.out.now _ (e _) in
    record { replied = rw (p.1, p.2) q.0; written = q.1 }

pub returns-in_err-picks : goal.returns-in_err-picks
returns-in_err-picks g c =
    let a = c.args in
    let way = by_update g.W.Way.update in
    let p = err_from_is_err_and c.from_residual-in_err-picks.result c.from_residual-in_err-picks.ensures.1 in
    let r = c.new-reader.ensures in
    let e = ended way (lifts a.fitting.now.sheet.words.now) a.words.now a.start (rw (r.list, r.position) at c.in_err-picks.ensures.picked) a.out.now in
    let q = through way (lifts a.fitting.now.sheet.words.now) a.words.now a.start a.out.now (nothing g (goal.at.returns-in_err-picks g c).In_ok-lacking) e.0 e.1 in
    record { replied = rw (p.1, p.2) q.0; written = q.1 }

pub write_pairs-requires : goal.write_pairs-requires
write_pairs-requires g c =
    writable _ _ _ _ (chosen g (goal.at.write_pairs-requires g c).In_ok-picks c.in_ok-picks.ensures.behind) (fit c.args.fitting.now.fitting) _ (nothing g (goal.at.write_pairs-requires g c).In_ok-lacking).1

pub overflow_sub-result : goal.overflow_sub-result
overflow_sub-result g c = onward _ _ _ _ (chosen g (goal.at.overflow_sub-result g c).In_ok-picks c.in_ok-picks.ensures.behind)

pub returns : goal.returns
returns g c =
    let a = c.args in
    let way = by_update g.W.Way.update in
    let d = chosen g (goal.at.returns g c).In_ok-picks c.in_ok-picks.ensures.behind in
    let q = through way (lifts a.fitting.now.sheet.words.now) a.words.now a.start a.out.now (nothing g (goal.at.returns g c).In_ok-lacking)
    (replied_all _ _ _ _ d (counted a.fitting.now.sheet.words.now a.fitting.now.judged)) (c.write_pairs.ensures ∙ written_all _ _ _ _ d (fit c.args.fitting.now.fitting) a.out.now) in
    record { replied = q.0; written = q.1 }
