-- Tables by round, and bounds on what the lifts of a sheet add to them.
use Prim.Native.Nat.{ℕ, zero, suc, ◌*◌, ◌^◌, ◌≤◌, ◌<◌}
use mathlib.Core.Path.{◌≡◌, refl, sym, ap, ◌∙◌}
use mathlib.Core.Bool.{Bool, true, false, cond}
use mathlib.Core.List.{List, [], ◌∷◌}
use native.Mathlib.Omega.{arith}
use lib.Dec.{eqb}
use lib.ListN.{length, get_or, set, length-set}
use lib.Seq.{get_or-set_same, get_or-set_other, ext_get_or}
use borrow.Author.Tests.{eqb-true, eqb-false}
use Rattle.probability.specs.Sum.{total_by}
use Rattle.sheet.specs.Sheet.{not_counted, kind, lift_kind, place_of, Lift, lift_of, lifts}
use Rattle.sheet.specs.Lift.{place_at, Side, Old, New}
use Rattle.tally.specs.Tables.{tabulate}

-- ---- tables

pub tabulate_at : {A : Type 0} (d : A) (n : ℕ) (f : ℕ → A) (k : ℕ) → k < n → get_or (tabulate n f) k d ≡ f k
unfolding tabulate
tabulate_at d zero f k h = absurd (omega arith)
tabulate_at d (suc n) f zero h = refl
tabulate_at d (suc n) f (suc k) h = tabulate_at d n (λ i. f (suc i)) k (omega arith)

pub length_tabulate : {A : Type 0} (n : ℕ) (f : ℕ → A) → length (tabulate n f) ≡ n
unfolding tabulate
length_tabulate zero f = refl
length_tabulate (suc n) f = ap suc (length_tabulate n (λ i. f (suc i)))

-- a list is a table by its elements
pub tabulated_at : {A : Type 0} (d : A) {n : ℕ} {l : List A} (f : ℕ → A) → length l ≡ n → ((k : ℕ) → k < n → get_or l k d ≡ f k) → l ≡ tabulate n f
tabulated_at d {n} {l} f e h = ext_get_or d l (tabulate n f) (e ∙ sym (length_tabulate n f)) (λ i p. h i (rw e at p) ∙ sym (tabulate_at d n f i (rw e at p)))

-- a table with another entry is the table of a rule that differs there alone
pub set_tabulate : {A : Type 0} {n k : ℕ} {v : A} (f g : ℕ → A) → k < n → v ≡ g k → ((r : ℕ) → (r ≡ k → ⊥) → f r ≡ g r) → set (tabulate n f) k v ≡ tabulate n g
set_tabulate {A} {n} {k} {v} f g l e h =
    tabulated_at v g (simp (length-set, length_tabulate)) (λ r p. go r p (eqb k r) refl)
  where
    go : (r : ℕ) → r < n → (b : Bool) → eqb k r ≡ b → get_or (set (tabulate n f) k v) r v ≡ g r
    go r p true b = rw (← eqb-true k r b) (get_or-set_same (tabulate n f) k v v (omega (arith, length_tabulate n f)) ∙ e)
    go r p false b =
        get_or-set_other (tabulate n f) k r v v (λ x. eqb-false k r b (sym x)) ∙ tabulate_at v n f r p ∙ h r (λ x. eqb-false k r b (sym x))

-- ---- small values

-- a measure that counts has room in a word
pub measure_lt : (side : Side) (ws : List ℕ) → (place_at side (lift_of ws)).measure < 2 ^ 21
measure_lt Old ws = omega arith
measure_lt New ws = either (eqb (place_of (get_or ws 2 0)).measure not_counted) (place_of (get_or ws 1 0)).measure (place_of (get_or ws 2 0)).measure (omega arith) (omega arith)
  where
    either : (t : Bool) (m b : ℕ) → m < 2 ^ 21 → b < 2 ^ 21 → cond t m b < 2 ^ 21
    either true m b h k = h
    either false m b h k = k

cond_le : (t : Bool) (v : ℕ) → cond t v 0 ≤ v
cond_le true v = omega arith
cond_le false v = omega arith

module _ (key value : Lift → ℕ) (small : (ws : List ℕ) → value (lift_of ws) < 2 ^ 21) where
  -- no sum of such values is above 2^21 for each word
  pub tally_le : (r : ℕ) (ws : List ℕ) → total_by key value r (lifts ws) ≤ length ws * 2 ^ 21
  unfolding total_by lifts
  tally_le r [] = omega arith
  tally_le r (w ∷ ws) = go (eqb (kind w) lift_kind) (tally_le r ws)
    where
      go : (t : Bool) → total_by key value r (lifts ws) ≤ length ws * 2 ^ 21
          → total_by key value r (cond t (lift_of (w ∷ ws) ∷ lifts ws) (lifts ws)) ≤ suc (length ws) * 2 ^ 21
      go true h = omega (arith, small (w ∷ ws), cond_le (eqb (key (lift_of (w ∷ ws))) r) (value (lift_of (w ∷ ws))))
      go false h = omega arith
