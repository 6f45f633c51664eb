-- Where the lift that a selection names stands in a new round, and the mean over a donor's lifts sorted by that.
use Prim.Native.Nat.{ℕ, zero, suc, ◌+◌, ◌-◌, ◌*◌, ◌≤◌, ◌<◌}
use mathlib.Core.Path.{◌≡◌, refl, sym, ap, ap₂, ◌∙◌}
use mathlib.Core.Bool.{Bool, true, false, cond, ◌&&◌, ◌||◌, and-false}
use mathlib.Core.List.{List, [], ◌∷◌, ◌++◌, map}
use native.Mathlib.Nat.{mul-pos}
use native.Mathlib.Omega.{arith}
use lib.Dec.{eqb}
use lib.ListN.{length}
use borrow.Author.Tests.{eqb-true, eq-eqb, ne_eqb}
use Rattle.probability.specs.Among.{among}
use Rattle.probability.specs.Sum.{over, total_by}
use Rattle.probability.specs.Fraction.{Fraction, ◌//◌, ◌⊕◌, ◌⊗◌, ◌≈◌, sum}
use Rattle.probability.proofs.Fractions.{pos_left, ≈-refl, ≈-trans, ⊕-assoc, ⊕-≈}
use Rattle.round.specs.Round.{lift_at, measure_from, U}
use Rattle.probability.specs.Initial.{Initial, here, elsewhere}
use Rattle.round.specs.declared.Lift.{Lift as RoundLift}
use Rattle.sheet.specs.Sheet.{Lift}
use Rattle.sheet.specs.Law.{AllWellFormed}
use Rattle.sheet.specs.Lift.{Old}
use Rattle.tally.specs.Rounds.{sum_of, of_round, further, held_at}
use Rattle.selection.specs.Choice.{in_round}
use Rattle.selection.specs.Initial.{names, marked}
use Rattle.selection.proofs.Sums.{U_sum, of_round_le}
use Rattle.selection.proofs.Means.{nth, brought, mean, brought-≈, mean-≈}

-- ---- numbers

-- lift numbers rise, so no two lifts have the same
above : (n : ℕ) (ls : List Lift) → AllWellFormed n ls → (i : ℕ) → i < length ls → n < (nth ls i).number
unfolding AllWellFormed
above n [] d i b = absurd (omega arith)
above n (l ∷ ls) d zero b = d.0.rises
above n (l ∷ ls) d (suc i) b = omega (arith, d.0.rises, above l.number ls d.1 i (omega arith))

pub numbered_once : (n : ℕ) (ls : List Lift) → AllWellFormed n ls → (i j : ℕ) → i < length ls → j < length ls → (nth ls i).number ≡ (nth ls j).number → nth ls i ≡ nth ls j
unfolding AllWellFormed
numbered_once n [] d i j b c e = absurd (omega arith)
numbered_once n (l ∷ ls) d zero zero b c e = refl
numbered_once n (l ∷ ls) d zero (suc j) b c e = absurd (omega (arith, above l.number ls d.1 j (omega arith)))
numbered_once n (l ∷ ls) d (suc i) zero b c e = absurd (omega (arith, above l.number ls d.1 i (omega arith)))
numbered_once n (l ∷ ls) d (suc i) (suc j) b c e = numbered_once l.number ls d.1 i j (omega arith) (omega arith) e

-- ---- where held lifts stand

-- a lift of another number can be left out of a selection
names_drop : (k m : List Lift) (l : Lift) (n : ℕ) → (l.number ≡ n → ⊥) → names (k ++ l ∷ m) n ≡ names (k ++ m) n
unfolding among
names_drop [] m l n h = rw (ne_eqb l.number n h)
names_drop (x ∷ k) m l n h = ap (λ y. eqb x.number n || y) (names_drop k m l n h)

-- and so can one whose number no lift of old round d has
pub held_at_drop : (d r : ℕ) (k m : List Lift) (l : Lift) (vs : List Lift) → ((i : ℕ) → i < length vs → l.number ≡ (nth vs i).number → (nth vs i).old.round ≡ d → ⊥)
    → held_at d (marked (k ++ l ∷ m) (of_round r vs)) ≡ held_at d (marked (k ++ m) (of_round r vs))
unfolding held_at marked of_round
held_at_drop d r k m l [] h = refl
held_at_drop d r k m l (v ∷ vs) h = go (eqb v.new.round r) (held_at_drop d r k m l vs (λ i b. h (suc i) (omega arith)))
  where
    same : (y : Bool) → eqb v.old.round d ≡ y → (names (k ++ l ∷ m) v.number && y) ≡ (names (k ++ m) v.number && y)
    same true e = ap (λ x. x && true) (names_drop k m l v.number (λ z. h 0 (omega arith) z (eqb-true v.old.round d e)))
    same false e = and-false (names (k ++ l ∷ m) v.number) ∙ sym (and-false (names (k ++ m) v.number))

    go : (x : Bool) → held_at d (marked (k ++ l ∷ m) (of_round r vs)) ≡ held_at d (marked (k ++ m) (of_round r vs))
        → held_at d (marked (k ++ l ∷ m) (cond x (v ∷ of_round r vs) (of_round r vs))) ≡ held_at d (marked (k ++ m) (cond x (v ∷ of_round r vs) (of_round r vs)))
    go true e = ap₂ (λ x i. cond x (here 0) (further i)) (same (eqb v.old.round d) refl) e
    go false e = e

-- where a lift alone, held, stands among some lifts
abbrev pub stands : ℕ → Lift → List Lift → Initial
stands t l us = held_at t (marked (l ∷ []) us)

-- if no lift is named, none stands here; a lift stands where its number is
stands_nowhere : (t : ℕ) (us : List Lift) → held_at t (marked [] us) ≡ elsewhere
unfolding held_at marked among
stands_nowhere t [] = refl
stands_nowhere t (u ∷ us) = ap further (stands_nowhere t us)

stands_first : (t : ℕ) (l : Lift) (us : List Lift) → l.old.round ≡ t → stands t l (l ∷ us) ≡ here 0
unfolding held_at marked among
stands_first t l us e = rw (eq-eqb l.number l.number refl, eq-eqb l.old.round t e)

stands_later : (t : ℕ) (l u : Lift) (us : List Lift) → (l.number ≡ u.number → ⊥) → stands t l (u ∷ us) ≡ further (stands t l us)
unfolding held_at marked among
stands_later t l u us h = rw (ne_eqb l.number u.number h)

-- ---- the lifts of a donor, sorted by where they stand

-- the mean over the initial selections of donor k, if its lifts measure S and weigh by T
abbrev pub placed : ℕ → ℕ → ℕ → List RoundLift → (Initial → Fraction) → Fraction
placed k T S us f = sum (length us) (λ i. measure_from k (lift_at us i) // T ⊗ f (here i)) ⊕ (S - U k us) // T ⊗ f elsewhere

-- one more part of what stands elsewhere
away_more : {s : Fraction} (T b c : ℕ) (q e : Fraction) → 0 < T → 0 < q.den → 0 < e.den → s ≈ q ⊕ c // T ⊗ e → b // T ⊗ e ⊕ s ≈ q ⊕ (b + c) // T ⊗ e
away_more T b c q e p u v h =
    record { cross = omega (arith, ap (λ x. x * (T * e.den)) h.cross); left = mul-pos (mul-pos p v) h.left; right = mul-pos u (mul-pos p v) }

-- donor k is old round t
module _ (t r k : ℕ) (key : ℕ → ℕ) (own : (s : ℕ) → eqb (key s) k ≡ eqb s t) where
  -- what comes here is a part of the whole
  came_part : (ls : List Lift) → U k (map (in_round key) (of_round r ls)) ≤ sum_of Old t ls
  came_part ls = rw (U_sum key k t own (of_round r ls)) (of_round_le (λ l. l.old.round) (λ l. l.old.measure) t r ls)

  -- a donor's lifts by their places here, and what stands elsewhere
  pub sorted : (T : ℕ) → 0 < T → (n : ℕ) (ls : List Lift) → AllWellFormed n ls → (f : Initial → Fraction) → ((x : Initial) → 0 < (f x).den)
      → mean t T ls (λ l. f (stands t l (of_round r ls))) ≈ placed k T (sum_of Old t ls) (map (in_round key) (of_round r ls)) f
  unfolding mean over total_by U of_round AllWellFormed
  sorted T p n [] d f u = record { cross = omega arith; left = omega arith; right = omega (arith, mul-pos p (u elsewhere)) }
  sorted T p n (l ∷ ls) d f u = go (eqb l.new.round r) (sorted T p l.number ls d.1)
    where
      us : List Lift
      us = of_round r ls

      standing : (Initial → Fraction) → Fraction
      standing g = sum (length (map (in_round key) us)) (λ i. measure_from k (lift_at (map (in_round key) us) i) // T ⊗ g (here i))

      later : (i : ℕ) → i < length ls → l.number < (nth ls i).number
      later = above l.number ls d.1

      go : (x : Bool)
          → ((g : Initial → Fraction) → ((y : Initial) → 0 < (g y).den) → mean t T ls (λ y. g (stands t y us)) ≈ placed k T (sum_of Old t ls) (map (in_round key) us) g)
          → mean t T (l ∷ ls) (λ y. f (stands t y (cond x (l ∷ us) us))) ≈ placed k T (brought t l + sum_of Old t ls) (map (in_round key) (cond x (l ∷ us) us)) f
      go true e =
          let g : Initial → Fraction = λ y. f (further y) in
          let a = brought-≈ t T p l (f (stands t l (l ∷ us))) (f (here 0)) (u (stands t l (l ∷ us))) (u (here 0)) (λ z. rw (stands_first t l us z) (≈-refl (u (here 0)))) in
          let b = mean-≈ t T p ls (λ y. f (stands t y (l ∷ us))) (λ y. g (stands t y us)) (λ y. u (stands t y (l ∷ us))) (λ y. u (further (stands t y us)))
          (λ i c _. let h : (nth ls i).number ≡ l.number → ⊥ = omega (arith, later i c) in rw (stands_later t (nth ls i) l us h) (≈-refl (u (further (stands t (nth ls i) us))))) in
          let z : brought t l + sum_of Old t ls - (brought t l + U k (map (in_round key) us)) ≡ sum_of Old t ls - U k (map (in_round key) us) = omega arith in
          rw (own l.old.round, z, ⊕-assoc (brought t l // T ⊗ f (here 0)) (standing g) ((sum_of Old t ls - U k (map (in_round key) us)) // T ⊗ f elsewhere))
          (⊕-≈ a (≈-trans b (e g (λ y. u (further y)))))
      go false e =
          let h : stands t l us ≡ elsewhere = held_at_drop t r [] [] l ls (λ i b z _. omega (arith, later i b)) ∙ stands_nowhere t us in
          let z : brought t l + sum_of Old t ls - U k (map (in_round key) us) ≡ brought t l + (sum_of Old t ls - U k (map (in_round key) us)) = omega (arith, came_part ls) in
          rw (h, z) (away_more T (brought t l) (sum_of Old t ls - U k (map (in_round key) us)) (standing f) (f elsewhere) p (pos_left (standing f).den _ (e f u).right) (u elsewhere) (e f u))
