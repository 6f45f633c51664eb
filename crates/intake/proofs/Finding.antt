-- Binary search among rising numbers.
use Prim.Native.Nat.{ℕ, zero, suc, ◌+◌, ◌*◌, ◌-◌, ◌/◌, ◌^◌, ◌≤◌, ◌<◌}
use mathlib.Core.Path.{◌≡◌, refl}
use mathlib.Core.Bool.{Bool, true, false, or-true}
use mathlib.Core.List.{List, [], ◌∷◌}
use native.Mathlib.Omega.{arith}
use lib.Dec.{eqb, leb, ltb}
use lib.ListN.{length, get_or}
use borrow.Author.Tests.{eqb-true, eqb-false, eq-eqb, ne_eqb, leb-true, leb-false, ltb-true, ltb-false}
use Rattle.probability.specs.Among.{among}
use Rattle.probability.specs.Sum.{indicator}
use Rattle.sheet.specs.Sheet.{most_lifts}
use Rattle.intake.specs.Positions.{RisingAbove}

-- each number is above the bound, and above those before it
pub rising_above : (b : ℕ) (ns : List ℕ) → RisingAbove b ns → (j : ℕ) → j < length ns → b < get_or ns j 0
unfolding RisingAbove
rising_above b [] r j h = absurd (omega arith)
rising_above b (n ∷ ns) r zero h = r.0
rising_above b (n ∷ ns) r (suc j) h = let l = rising_above n ns r.1 j (omega arith) in let k = r.0 in omega arith

pub rising_lt : (b : ℕ) (ns : List ℕ) → RisingAbove b ns → (i j : ℕ) → i < j → j < length ns → get_or ns i 0 < get_or ns j 0
unfolding RisingAbove
rising_lt b [] r i j l h = absurd (omega arith)
rising_lt b (n ∷ ns) r i zero l h = absurd (omega arith)
rising_lt b (n ∷ ns) r zero (suc j) l h = rising_above n ns r.1 j (omega arith)
rising_lt b (n ∷ ns) r (suc i) (suc j) l h = rising_lt n ns r.1 i j (omega arith) (omega arith)

-- ---- the search

absent : (n : ℕ) (ns : List ℕ) → ((j : ℕ) → j < length ns → get_or ns j 0 ≡ n → ⊥) → among n ns ≡ false
unfolding among
absent n [] h = refl
absent n (m ∷ ms) h = rw (ne_eqb m n (h 0 (omega arith))) (absent n ms (λ j l. h (suc j) (omega arith)))

-- a number that stands in the list is among it
pub present : (n : ℕ) (ns : List ℕ) (k : ℕ) → k < length ns → get_or ns k 0 ≡ n → among n ns ≡ true
unfolding among
present n [] k l e = absurd (omega arith)
present n (m ∷ ms) zero l e = rw (eq-eqb m n e)
present n (m ∷ ms) (suc k) l e = rw (present n ms k (omega arith) e) (or-true (eqb m n))

-- ---- the halves

module _ (ns : List ℕ) (up : RisingAbove 0 ns) where
  -- no number falls
  rises : (i j : ℕ) → i ≤ j → j < length ns → get_or ns i 0 ≤ get_or ns j 0
  rises i j h l = go (eqb i j) refl
    where
      go : (t : Bool) → eqb i j ≡ t → get_or ns i 0 ≤ get_or ns j 0
      go true e = rw (eqb-true i j e) (omega arith)
      go false e = let o = eqb-false i j e in let z = rising_lt 0 ns up i j (omega arith) l in omega arith

-- the number stands, if anywhere, from low up and below low + size
pub record Narrowed (ns : List ℕ) (n low size : ℕ) : Type 0 where
  pub inside : low + size ≤ most_lifts
  pub below : (j : ℕ) → j < low → get_or ns j 0 < n
  pub above : (j : ℕ) → low + size ≤ j → j < length ns → n < get_or ns j 0

module _ {ns : List ℕ} {n : ℕ} (up : RisingAbove 0 ns) {low size : ℕ} (d : Narrowed ns n low size) where
  -- where the middle is beyond the numbers
  pub narrowed_past : 1 < size → length ns ≤ low + size / 2 → Narrowed ns n low (size - size / 2)
  narrowed_past more h = record { inside = omega (arith, d.inside); below = d.below; above = λ j k m. absurd (omega arith) }

  pub narrowed_turn : 1 < size → low + size / 2 < length ns → {t : ℕ} → t ≡ indicator (leb (get_or ns (low + size / 2) 0) n) → Narrowed ns n (low + size / 2 * t) (size - size / 2)
  narrowed_turn more room {t} f = rw f (go (leb (get_or ns (low + size / 2) 0) n) refl)
    where
      go : (u : Bool) → leb (get_or ns (low + size / 2) 0) n ≡ u → Narrowed ns n (low + size / 2 * indicator u) (size - size / 2)
      go true q =
          let l = leb-true _ _ q in
          record {
            inside = omega (arith, d.inside);
            below = λ j h. let z = rising_lt 0 ns up j (low + size / 2) (omega arith) room in omega arith;
            above = λ j h k. d.above j (omega arith) k;
          }
      go false q =
          let l = leb-false _ _ q in
          record {
            inside = omega (arith, d.inside);
            below = λ j h. d.below j (omega arith);
            above = λ j h k. let z = rises ns up (low + size / 2) j (omega arith) k in omega arith;
          }

  pub narrowed_end : size ≤ 1 → (low < length ns → get_or ns low 0 ≡ n → ⊥) → among n ns ≡ false
  narrowed_end one o = absent n ns (λ j l e. go j l e (ltb j low) refl (eqb j low) refl)
    where
      go : (j : ℕ) → j < length ns → get_or ns j 0 ≡ n → (t : Bool) → ltb j low ≡ t → (u : Bool) → eqb j low ≡ u → ⊥
      go j l e true q u v = let k = d.below j (ltb-true j low q) in omega arith
      go j l e false q true v = let w = eqb-true j low v in o (omega arith) (rw w at e)
      go j l e false q false v = let k = d.above j (omega (arith, one, ltb-false j low q, eqb-false j low v)) l in omega arith

-- ---- at most, by a carry

pub carried : (m n : ℕ) → m < 2 ^ 32 → n < 2 ^ 32 → (n + (2 ^ 32 - m)) / 2 ^ 32 ≡ indicator (leb m n)
carried m n h k = go (leb m n) refl
  where
    go : (t : Bool) → leb m n ≡ t → (n + (2 ^ 32 - m)) / 2 ^ 32 ≡ indicator t
    go true e = let l = leb-true m n e in omega arith
    go false e = let l = leb-false m n e in omega arith
