-- A search among the rounds from 1 up finds the first round that passes, or none; and a count of them counts the rounds that pass.
use Rattle.std.specs.Prelude.{Some, Option, option_map, position, count_by}
use Rattle.std.specs.List.{position_from}
use Rattle.std.proofs.lemmas.Iterator.Adapters.{position_from-zero}
use Rattle.std.proofs.lemmas.List.Sums.{sum_by-cons}
use Prim.Native.Nat.{ℕ, suc, ◌+◌, ◌≤◌, ◌<◌}
use native.Mathlib.Numerals.{add-one}
use native.Mathlib.Omega.{arith}
use mathlib.Core.Path.{◌≡◌, refl, sym, ap, ◌∙◌}
use mathlib.Core.Bool.{Bool, true, false, cond}
use mathlib.Core.List.{List, [], ◌∷◌}
use lib.ListN.{length, get_or, drop}
use Rattle.sheet.specs.Sheet.{most_rounds}
use Rattle.tally.specs.Rounds.{filter_range, rounds}
use Rattle.tally.specs.Tables.{found_first}

-- along the table from entry i + 1 up
sought : {A : Type 0} (p : A → Bool) (d : A) (q : ℕ → Bool) (i : ℕ) (ys : List A) → ((k : ℕ) → k < length ys → q (suc (i + k)) ≡ p (get_or ys k d))
    → option_map (λ k. k + 1) (position_from p i ys) ≡ found_first (filter_range q (suc i) (length ys))
unfolding filter_range
sought p d q i [] h = refl
sought p d q i (y ∷ ys) h =
    let e : suc (i + 0) ≡ suc i = omega arith in
    rw (sym (ap q e) ∙ h 0 (omega arith), add-one i)
    (go (p y) _ _ (sought p d q (suc i) ys (λ k l. let e : suc (suc i + k) ≡ suc (i + suc k) = omega arith in ap q e ∙ h (suc k) (omega arith))))
  where
    go : (b : Bool) (o : Option ℕ) (rs : List ℕ) → option_map (λ k. k + 1) o ≡ found_first rs → option_map (λ k. k + 1) (cond b (Some i) o) ≡ found_first (cond b (suc i ∷ rs) rs)
    go true o rs e = ap Some (add-one i)
    go false o rs e = e

-- where the test of a round is that of its entry
pub found : {A : Type 0} (p : A → Bool) (d : A) (q : ℕ → Bool) (xs : List A) → length xs ≡ most_rounds + 1 → ((r : ℕ) → r ≤ most_rounds → q r ≡ p (get_or xs r d)) → option_map (λ k. k + 1) (position p (drop 1 xs)) ≡ found_first (rounds q)
found p d q [] e h = absurd (omega arith)
found p d q (x ∷ xs) e h =
    let l : length xs ≡ most_rounds = omega arith in
    ap (option_map (λ k. k + 1)) (position_from-zero p xs) ∙ rw l at (sought p d q 0 xs (λ k m. let z : suc (0 + k) ≡ suc k = omega arith in ap q z ∙ h (suc k) (omega arith)))

-- along the table from round i up
counted_from : {A : Type 0} (p : A → Bool) (d : A) (q : ℕ → Bool) (i : ℕ) (ys : List A) → ((k : ℕ) → k < length ys → q (i + k) ≡ p (get_or ys k d))
    → count_by p ys ≡ length (filter_range q i (length ys))
unfolding filter_range
counted_from p d q i [] h = refl
counted_from p d q i (y ∷ ys) h =
    let e : i + 0 ≡ i = omega arith in
    sum_by-cons (λ x. cond (p x) 1 0) y ys
    ∙ rw (sym (ap q e) ∙ h 0 (omega arith), counted_from p d q (suc i) ys (λ k l. let e : suc i + k ≡ i + suc k = omega arith in ap q e ∙ h (suc k) (omega arith)))
    (go (p y) (filter_range q (suc i) (length ys)))
  where
    go : (b : Bool) (rs : List ℕ) → cond b 1 0 + length rs ≡ length (cond b (i ∷ rs) rs)
    go true rs = omega arith
    go false rs = omega arith

pub counted : {A : Type 0} (p : A → Bool) (d : A) (xs : List A) → length xs ≡ most_rounds + 1 → count_by p (drop 1 xs) ≡ length (rounds (λ r. p (get_or xs r d)))
counted p d [] e = absurd (omega arith)
counted p d (x ∷ xs) e =
    let l : length xs ≡ most_rounds = omega arith in
    rw l at (counted_from p d (λ r. p (get_or (x ∷ xs) r d)) 1 xs (λ k h. let z : 1 + k ≡ suc k = omega arith in ap (λ j. p (get_or (x ∷ xs) j d)) z))
