-- `picks::select_all` meets its contract: there is a row for each lift. Assumes nothing.
use native.Mathlib.Omega.{arith}
use mathlib.Core.List.{List}
use mathlib.Core.Path.{◌≡◌, sym, ap, ◌∙◌}
use Prim.Native.Nat.{ℕ, ◌*◌, ◌≤◌}
use lib.ListN.{length}
use lib.Seq.{length-take-le}
use Rattle.sheet.specs.Sheet.{most_lifts, lifts}
use Rattle.round.specs.Rows.{row_length}
use Rattle.tally.specs.Verdict.{crowded, fits, verdict}
use Rattle.tally.specs.Law.{Fitting}
use Rattle.tally.proofs.Verdicts.{decided, fit}
use Rattle.picks.proofs.select_all.Goals as goal

-- there is room for the rows
many : (ws : List ℕ) {n k : ℕ} → fits n k ≡ verdict ws → n ≡ length (lifts ws)
many ws e = ((decided crowded ws).only _ _ (sym e)).1

room : (ws : List ℕ) {n k : ℕ} → Fitting ws → fits n k ≡ verdict ws → row_length * n ≤ row_length * most_lifts
room ws f e = omega (arith, many ws e, (fit f).well_formed.few)

pub overflow_mul-end : goal.overflow_mul-end
overflow_mul-end g c = let f = c.args.fitting.now in omega (arith, room f.sheet.words.now f.fitting f.judged)

pub slice_bounds-rows-end : goal.slice_bounds-rows-end
slice_bounds-rows-end g c = let f = c.args.fitting.now in room f.sheet.words.now f.fitting f.judged

pub slice_bounds-select_rounds-end : goal.slice_bounds-select_rounds-end
slice_bounds-select_rounds-end g c = let f = c.args.fitting.now in sym (length-take-le _ _ (room f.sheet.words.now f.fitting f.judged))

pub select_rounds-requires : goal.select_rounds-requires
select_rounds-requires g c = let f = c.args.fitting.now in
    length-take-le _ _ (room f.sheet.words.now f.fitting f.judged) ∙ ap (λ n. row_length * n) (many f.sheet.words.now f.judged)
