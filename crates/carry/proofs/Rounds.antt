-- Lifts carried on: every round has the sums of this quarter's new round, and is its own only donor.
use Prim.Native.Nat.{ℕ, ◌+◌, ◌≤◌, ◌<◌}
use mathlib.Core.Path.{◌≡◌, refl, sym, ap, ap₂, ◌∙◌}
use mathlib.Core.Bool.{Bool, true, false, cond, ◌&&◌}
use mathlib.Core.List.{List, [], ◌∷◌, map, Memᴰ}
use native.Mathlib.Omega.{arith}
use lib.Dec.{eqb, ltb, leb}
use lib.ListN.{length}
use borrow.Author.Tests.{eqb-true, eqb-false, ne_eqb}
use Rattle.probability.specs.Sum.{total_by}
use Rattle.sheet.specs.Sheet.{most_rounds, not_counted, old_kind, new_kind, Lift}
use Rattle.sheet.specs.Reading.{too_large}
use Rattle.sheet.specs.Lift.{filled_in, place_at, Side, Old, New}
use Rattle.tally.specs.Rounds.{lift_count, in_use, sum_of, sends, donors, of_round}
use Rattle.sheet.specs.Law.{AllWellFormed}
use Rattle.tally.proofs.Ranges.{filter_ext, filter_none, filter_only}
use Rattle.carry.specs.Next.{remaining, carried, carried_on}

module _ (held : Lift → Bool) where
  -- ---- sums by round

  -- a sum over the rounds of lifts carried on is one over their new rounds before
  total_by_next : (key value v : Lift → ℕ) → ((l : Lift) → key (carried held l) ≡ l.new.round) → ((l : Lift) → value (carried held l) ≡ v l)
      → (r : ℕ) → 1 ≤ r → (ls : List Lift) → total_by key value r (carried_on held ls) ≡ total_by (λ l. l.new.round) v r ls
  unfolding total_by remaining
  total_by_next key value v k e r h [] = refl
  total_by_next key value v k e r h (l ∷ ls) = go (eqb l.new.round 0) refl (total_by_next key value v k e r h ls)
    where
      go : (t : Bool) → eqb l.new.round 0 ≡ t → total_by key value r (carried_on held ls) ≡ total_by (λ l. l.new.round) v r ls
          → total_by key value r (map (carried held) (cond t (remaining ls) (l ∷ remaining ls))) ≡ cond (eqb l.new.round r) (v l) 0 + total_by (λ l. l.new.round) v r ls
      go true q ih = rw (ne_eqb l.new.round r (omega (arith, eqb-true l.new.round 0 q))) (omega arith)
      go false q ih = ap₂ ◌+◌ (ap₂ (λ x y. cond (eqb x r) y 0) (k l) (e l)) ih

  pub named_next : (side : Side) (r : ℕ) → 1 ≤ r → (ls : List Lift) → lift_count side r (carried_on held ls) ≡ lift_count New r ls
  named_next Old r h ls = total_by_next (λ l. l.old.round) (λ _. 1) (λ _. 1) (λ l. refl) (λ l. refl) r h ls
  named_next New r h ls = total_by_next (λ l. l.new.round) (λ _. 1) (λ _. 1) (λ l. refl) (λ l. refl) r h ls

  pub sum_of_next : (side : Side) (r : ℕ) → 1 ≤ r → (ls : List Lift) → sum_of side r (carried_on held ls) ≡ sum_of New r ls
  sum_of_next Old r h ls = total_by_next (λ l. l.old.round) (λ l. l.old.measure) (λ l. (place_at New l).measure) (λ l. refl) (λ l. refl) r h ls
  sum_of_next New r h ls = total_by_next (λ l. l.new.round) (λ l. (place_at New l).measure) (λ l. (place_at New l).measure) (λ l. refl) (λ l. refl) r h ls

  pub in_use_next : (side : Side) (ls : List Lift) → in_use side (carried_on held ls) ≡ in_use New ls
  in_use_next side ls = filter_ext 1 most_rounds (λ r l _. ap (ltb 0) (named_next side r l ls))

  -- ---- donors

  -- no round sends another anything
  sends_other : (t r : ℕ) → (t ≡ r → ⊥) → (ls : List Lift) → sends t r (carried_on held ls) ≡ false
  unfolding sends remaining
  sends_other t r d [] = refl
  sends_other t r d (l ∷ ls) = go (eqb l.new.round 0) (sends_other t r d ls)
    where
      one : (x : Bool) → eqb l.new.round t ≡ x → (x && (eqb l.new.round r && ltb 0 (place_at New l).measure)) ≡ false
      one true e = rw (ne_eqb l.new.round r (λ q. d (sym (eqb-true l.new.round t e) ∙ q)))
      one false e = refl

      go : (x : Bool) → sends t r (carried_on held ls) ≡ false → sends t r (map (carried held) (cond x (remaining ls) (l ∷ remaining ls))) ≡ false
      go true ih = ih
      go false ih = rw (one (eqb l.new.round t) refl) ih

  -- its only donor, if it has one, is itself
  pub donors_next : (r : ℕ) → 1 ≤ r → r ≤ most_rounds → (ls : List Lift) → sends r r (carried_on held ls) ≡ true → donors r (carried_on held ls) ≡ r ∷ []
  donors_next r l h ls e = filter_only (λ t. sends t r (carried_on held ls)) 1 most_rounds r e l (omega arith) (λ t q. sends_other t r q ls)

  pub few_donors : (r : ℕ) → 1 ≤ r → r ≤ most_rounds → (ls : List Lift) → leb 3 (length (donors r (carried_on held ls))) ≡ false
  few_donors r l h ls = go (sends r r (carried_on held ls)) refl
    where
      others : (t : ℕ) (y : Bool) → eqb t r ≡ y → sends r r (carried_on held ls) ≡ false → sends t r (carried_on held ls) ≡ false
      others t true q e = rw (eqb-true t r q) e
      others t false q e = sends_other t r (eqb-false t r q) ls

      go : (x : Bool) → sends r r (carried_on held ls) ≡ x → leb 3 (length (donors r (carried_on held ls))) ≡ false
      go true e = rw (donors_next r l h ls e)
      go false e = rw (filter_none (λ t. sends t r (carried_on held ls)) 1 most_rounds (λ t _ _. others t (eqb t r) refl e))

  -- ---- lifts

  -- the lifts of a round stay together
  pub of_round_next : (r : ℕ) → 1 ≤ r → (ls : List Lift) → of_round r (carried_on held ls) ≡ map (carried held) (of_round r ls)
  unfolding of_round remaining
  of_round_next r h [] = refl
  of_round_next r h (l ∷ ls) = go (eqb l.new.round 0) refl (eqb l.new.round r) refl (of_round_next r h ls)
    where
      go : (x : Bool) → eqb l.new.round 0 ≡ x → (y : Bool) → eqb l.new.round r ≡ y → of_round r (carried_on held ls) ≡ map (carried held) (of_round r ls)
          → of_round r (map (carried held) (cond x (remaining ls) (l ∷ remaining ls))) ≡ map (carried held) (cond y (l ∷ of_round r ls) (of_round r ls))
      go true e true q ih = absurd (omega (arith, eqb-true l.new.round 0 e, eqb-true l.new.round r q))
      go true e false q ih = ih
      go false e true q ih = rw q (ap (λ us. carried held l ∷ us) ih)
      go false e false q ih = rw q ih

-- ---- well-formed lifts

-- numbers above one are above a smaller one
listed_lower : {m n : ℕ} (ls : List Lift) → m ≤ n → AllWellFormed n ls → AllWellFormed m ls
unfolding AllWellFormed
listed_lower [] h d = tt
listed_lower (l ∷ ls) h (p, d) =
    (record { rises = omega (arith, p.rises); payload = p.payload; old = p.old; new = p.new; newcomer = p.newcomer; held = p.held }, d)

-- a measure that counts is not too large for an old place
filled_small : (m b : ℕ) → too_large old_kind m ≡ false → too_large new_kind b ≡ false → too_large old_kind (filled_in m b) ≡ false
filled_small m b h k = go (eqb b not_counted) refl k
  where
    go : (x : Bool) → eqb b not_counted ≡ x → too_large new_kind b ≡ false → too_large old_kind (cond x m b) ≡ false
    go true e k = h
    go false e k = rw e at k

-- lifts carried on are well-formed, if those held have a measure above 0
pub listed_next : (held : Lift → Bool) (n : ℕ) (ls : List Lift) → ((l : Lift) → Memᴰ l ls → held l ≡ true → 0 < (place_at New l).measure) → AllWellFormed n ls
    → AllWellFormed n (carried_on held ls)
unfolding AllWellFormed remaining
listed_next held n [] m d = tt
listed_next held n (l ∷ ls) m (p, d) = go (eqb l.new.round 0) refl (listed_next held l.number ls (λ k i. m k (Memᴰ.tail i)) d)
  where
    go : (x : Bool) → eqb l.new.round 0 ≡ x → AllWellFormed l.number (carried_on held ls) → AllWellFormed n (map (carried held) (cond x (remaining ls) (l ∷ remaining ls)))
    go true e r = listed_lower (carried_on held ls) (omega (arith, p.rises)) r
    go false e r = (
      record {
        rises = p.rises;
        payload = p.payload;
        old = record { round = p.new.round; measure = filled_small l.old.measure l.new.measure p.old.measure p.new.measure; nowhere = λ z. absurd (eqb-false l.new.round 0 e z) };
        new = record { round = p.new.round; measure = refl; nowhere = λ z. absurd (eqb-false l.new.round 0 e z) };
        newcomer = λ z _. eqb-false l.new.round 0 e z;
        held = m l (Memᴰ.head refl);
      },
      r,
    )

-- ---- how many remain

-- those of new round 0 and those that remain are all
pub remaining_counts : (ls : List Lift) → lift_count New 0 ls + length (remaining ls) ≡ length ls
unfolding total_by remaining
remaining_counts [] = refl
remaining_counts (l ∷ ls) = go (eqb l.new.round 0) (remaining_counts ls)
  where
    go : (t : Bool) → lift_count New 0 ls + length (remaining ls) ≡ length ls
        → cond t 1 0 + lift_count New 0 ls + length (cond t (remaining ls) (l ∷ remaining ls)) ≡ length (l ∷ ls)
    go true h = omega arith
    go false h = omega arith

pub remaining_few : (ls : List Lift) → length (remaining ls) ≤ length ls
remaining_few ls = omega (arith, remaining_counts ls)

-- ---- tests that agree

pub carried_on_ext : {h k : Lift → Bool} (ls : List Lift) → ((l : Lift) → Memᴰ l ls → 1 ≤ l.new.round → h l ≡ k l) → carried_on h ls ≡ carried_on k ls
unfolding remaining
carried_on_ext [] e = refl
carried_on_ext {h} {k} (l ∷ ls) e = go (eqb l.new.round 0) refl (carried_on_ext ls (λ m i. e m (Memᴰ.tail i)))
  where
    go : (x : Bool) → eqb l.new.round 0 ≡ x → carried_on h ls ≡ carried_on k ls
        → map (carried h) (cond x (remaining ls) (l ∷ remaining ls)) ≡ map (carried k) (cond x (remaining ls) (l ∷ remaining ls))
    go true q r = r
    go false q r = ap₂ (λ b us. carried (λ _. b) l ∷ us) (e l (Memᴰ.head refl) (omega (arith, eqb-false l.new.round 0 q))) r
