-- Well-formed lifts, and where 7 meets no old round, each that is in use has one held lift; this gives the
-- length of their sheet.
use Prim.Native.Nat.{ℕ, zero, suc, ◌+◌, ◌*◌, ◌≤◌, ◌<◌}
use mathlib.Core.Path.{◌≡◌, refl, sym, ap, ap₂, ◌∙◌}
use mathlib.Core.Bool.{Bool, true, false, cond, ◌&&◌, not, true≢false}
use mathlib.Core.List.{List, [], ◌∷◌, ◌++◌, map}
use native.Mathlib.Nat.{zero-add}
use native.Mathlib.Omega.{arith}
use lib.Dec.{eqb, ltb, leb}
use lib.ListN.{length}
use borrow.Author.Tests.{eqb-true, leb-true, leb-false, ltb-false}
use Rattle.probability.specs.Sum.{over, total, indicator}
use Rattle.probability.proofs.Lists.{All, all_none, all_more, all_get_d}
use Rattle.probability.proofs.Sums.{indicator_le, over_ext, Σ-total_by, total_by_none, total_by_le}
use Rattle.sheet.specs.Sheet.{most_rounds, longest, Lift, words_then, sheet_of, word, held_kind, end_kind}
use Rattle.tally.specs.Rounds.{lift_count, in_use, held_count}
use Rattle.tally.specs.Verdict.{not_one_held}
use Rattle.sheet.specs.Law.{LiftWellFormed, AllWellFormed}
use Rattle.tally.specs.Law.{Nowhere, FitBy}
use Rattle.reply.specs.declared.Refusal.{Refusal}
use Rattle.sheet.specs.Lift.{Old}
use Rattle.tally.proofs.Ranges.{filter_count, filter_few}
use Rattle.selection.specs.Choice.{no_lift}

-- ---- lifts by their old rounds

abbrev pub old_round : Lift → ℕ
old_round l = l.old.round

-- ---- well-formed lifts

-- each is proper behind the lift before the first
pub proper : (n : ℕ) (ls : List Lift) → AllWellFormed n ls → All (LiftWellFormed n) ls
unfolding AllWellFormed
proper n [] d = all_none (LiftWellFormed n)
proper n (l ∷ ls) (p, d) =
    all_more (LiftWellFormed n) p
    (λ k m.
    let q = proper l.number ls d k m in
    record { rises = omega (arith, p.rises, q.rises); payload = q.payload; old = q.old; new = q.new; newcomer = q.newcomer; held = q.held })

-- a held lift has an old round
pub somewhere : {n : ℕ} {l : Lift} → LiftWellFormed n l → l.held ≡ true → 1 ≤ l.old.round
somewhere {n} {l} p e = go l.old.round refl
  where
    go : (r : ℕ) → l.old.round ≡ r → 1 ≤ r
    go zero z = absurd (omega (arith, p.held e, p.old.nowhere z))
    go (suc r) z = omega arith

-- ---- the length of a sheet

-- three words for each lift and one for each mark
length_written : (ls : List Lift) (ws : List ℕ) → length (words_then ls ws) ≡ 3 * length ls + total (map (λ l. indicator l.held) ls) + length ws
unfolding words_then total
length_written [] ws = omega arith
length_written (l ∷ ls) ws = go l.held (length_written ls ws)
  where
    go : (t : Bool) → length (words_then ls ws) ≡ 3 * length ls + total (map (λ l. indicator l.held) ls) + length ws
        → suc (suc (suc (length (cond t (word held_kind 0 ∷ []) [] ++ words_then ls ws)))) ≡ 3 * suc (length ls) + (indicator t + total (map (λ l. indicator l.held) ls)) + length ws
    go true e = omega arith
    go false e = omega arith

-- a round that is not unheld has one held lift if it is in use, else none
pub held_exactly : (ls : List Lift) (r : ℕ) → not_one_held ls r ≡ false → held_count r ls ≡ indicator (ltb 0 (lift_count Old r ls))
held_exactly ls r h =
    go (ltb 0 (lift_count Old r ls)) refl (eqb (held_count r ls) 1) refl h (total_by_le old_round r (λ l. indicator l.held) (λ _. 1) (λ l. indicator_le l.held) ls)
  where
    go : (x : Bool) → ltb 0 (lift_count Old r ls) ≡ x → (y : Bool) → eqb (held_count r ls) 1 ≡ y → (x && not y) ≡ false → held_count r ls ≤ lift_count Old r ls → held_count r ls ≡ indicator x
    go true e true f q l = eqb-true (held_count r ls) 1 f
    go true e false f q l = absurd (true≢false q)
    go false e y f q l = omega (arith, ltb-false 0 (lift_count Old r ls) e)

module _ (ls : List Lift) (d : AllWellFormed 0 ls) where
  -- a lift of no old round is not held
  held_nowhere : (t : ℕ) → (1 ≤ t → t ≤ most_rounds → ⊥) → held_count t ls ≡ 0
  held_nowhere t out = total_by_none old_round t (λ l. indicator l.held) ls (λ l i q. go l q (proper 0 ls d l i) l.held refl)
    where
      go : (l : Lift) → l.old.round ≡ t → LiftWellFormed 0 l → (x : Bool) → l.held ≡ x → indicator x ≡ 0
      go l q p true e = absurd (out (omega (arith, somewhere p e)) (omega (arith, p.old.round)))
      go l q p false e = refl

  module _ (h : Nowhere (not_one_held ls)) where
    -- so no old round has more than one
    pub held_one : (t : ℕ) → held_count t ls ≤ 1
    held_one t = go (leb 1 t) refl (leb t most_rounds) refl
      where
        go : (x : Bool) → leb 1 t ≡ x → (y : Bool) → leb t most_rounds ≡ y → held_count t ls ≤ 1
        go true e true f = omega (arith, held_exactly ls t (h t (leb-true 1 t e) (leb-true t most_rounds f)), indicator_le (ltb 0 (lift_count Old t ls)))
        go true e false f = omega (arith, held_nowhere t (λ _ l. omega (arith, leb-false t most_rounds f)))
        go false e y f = omega (arith, held_nowhere t (λ l _. omega (arith, leb-false 1 t e)))

    -- as many lifts are held as old rounds are in use
    held_total : total (map (λ l. indicator l.held) ls) ≡ length (in_use Old ls)
    unfolding over
    held_total =
        sym (Σ-total_by old_round (λ l. indicator l.held) no_lift (suc most_rounds) ls
        (λ i _. all_get_d (λ l. l.old.round < suc most_rounds) (omega arith) ls (λ l m. let p = proper 0 ls d l m in omega (arith, p.old.round)) i))
        ∙ ap₂ ◌+◌ (held_nowhere 0 (λ l _. omega arith))
        (over_ext ◌+◌ 0 most_rounds {g = λ t. indicator (ltb 0 (lift_count Old (1 + t) ls))}
        (λ i l.
        let e : suc i ≡ 1 + i = omega arith in
        held_exactly ls (suc i) (h (suc i) (omega arith) (omega arith)) ∙ ap (λ t. indicator (ltb 0 (lift_count Old t ls))) e))
        ∙ zero-add _ ∙ sym (filter_count (λ t. ltb 0 (lift_count Old t ls)) 1 most_rounds)

-- so a sheet that fits has three words for each lift, one for each old round, and the end word
pub sheet_length : {refuses : List Lift → List Refusal} {ls : List Lift} → FitBy refuses ls → length (sheet_of ls) ≡ 3 * length ls + length (in_use Old ls) + 1
sheet_length {ls = ls} f = length_written ls (word end_kind (length ls) ∷ []) ∙ ap (λ n. 3 * length ls + n + 1) (held_total ls f.well_formed.listed f.rounds.held)

-- and is not too long
pub sheet_short : {refuses : List Lift → List Refusal} {ls : List Lift} → FitBy refuses ls → length (sheet_of ls) ≤ longest
sheet_short {ls = ls} f = omega (arith, sheet_length f, filter_few (λ t. ltb 0 (lift_count Old t ls)) 1 most_rounds, f.well_formed.few)
