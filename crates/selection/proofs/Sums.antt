-- The sums of a new round's lifts: they are those of the sheet's definitions, and a part of the old sums.
use Prim.Native.Nat.{ℕ, ◌+◌, ◌≤◌, ◌<◌}
use mathlib.Core.Path.{◌≡◌, refl, ap, ap₂}
use mathlib.Core.Bool.{Bool, true, false, cond, ◌&&◌, ◌||◌, false≢true}
use mathlib.Core.List.{List, [], ◌∷◌, map}
use native.Mathlib.Omega.{arith}
use lib.Dec.{eqb, ltb}
use borrow.Author.Tests.{ltb-true}
use Rattle.probability.specs.Sum.{total, value_by, total_by}
use Rattle.round.specs.Round.{S, U}
use Rattle.sheet.specs.Sheet.{Lift}
use Rattle.sheet.specs.Lift.{place_at, Old, New}
use Rattle.tally.specs.Rounds.{sum_of, sends, of_round}
use Rattle.selection.specs.Choice.{in_round}

-- S is the new sum, however donors are numbered
pub S_sum : (number : ℕ → ℕ) (r : ℕ) (ls : List Lift) → S (map (in_round number) (of_round r ls)) ≡ sum_of New r ls
unfolding S total total_by of_round
S_sum number r [] = refl
S_sum number r (l ∷ ls) = go (eqb l.new.round r) (S_sum number r ls)
  where
    go : (t : Bool) → S (map (in_round number) (of_round r ls)) ≡ sum_of New r ls
        → S (map (in_round number) (cond t (l ∷ of_round r ls) (of_round r ls))) ≡ cond t (place_at New l).measure 0 + sum_of New r ls
    go true e = ap (λ x. (place_at New l).measure + x) e
    go false e = omega arith

-- U of a donor's number is a sum by that number
pub U_by_number : (number : ℕ → ℕ) (k : ℕ) (us : List Lift)
    → U k (map (in_round number) us) ≡ total_by (λ l. number l.old.round) (λ l. l.old.measure) k us
unfolding U total_by
U_by_number number k [] = refl
U_by_number number k (u ∷ us) = ap (λ n. cond (eqb (number u.old.round) k) u.old.measure 0 + n) (U_by_number number k us)

-- U of the donor numbered k is what its old round sends, if old round d alone is numbered k
pub U_sum : (number : ℕ → ℕ) (k d : ℕ) → ((t : ℕ) → eqb (number t) k ≡ eqb t d) → (us : List Lift) → U k (map (in_round number) us) ≡ sum_of Old d us
unfolding U total_by
U_sum number k d h [] = refl
U_sum number k d h (u ∷ us) = ap₂ (λ x y. cond x u.old.measure 0 + y) (h u.old.round) (U_sum number k d h us)

-- what a new round has of a sum by a key is a part of it
pub of_round_le : (key value : Lift → ℕ) (k r : ℕ) (ls : List Lift) → total_by key value k (of_round r ls) ≤ total_by key value k ls
unfolding of_round total_by
of_round_le key value k r [] = omega arith
of_round_le key value k r (l ∷ ls) = go (eqb l.new.round r) (of_round_le key value k r ls)
  where
    go : (t : Bool) → total_by key value k (of_round r ls) ≤ total_by key value k ls
        → total_by key value k (cond t (l ∷ of_round r ls) (of_round r ls)) ≤ value_by key value k l + total_by key value k ls
    go true e = omega arith
    go false e = omega arith

-- a donor sends something
pub sends_some : (d r : ℕ) (ls : List Lift) → sends d r ls ≡ true → 0 < sum_of Old d (of_round r ls)
unfolding of_round total_by sends
sends_some d r [] e = absurd (false≢true e)
sends_some d r (l ∷ ls) e = go (eqb l.old.round d) refl (eqb l.new.round r) (ltb 0 l.old.measure) refl e (sends_some d r ls)
  where
    go : (x : Bool) → eqb l.old.round d ≡ x → (y z : Bool) → ltb 0 l.old.measure ≡ z → (x && (y && z) || sends d r ls) ≡ true
        → (sends d r ls ≡ true → 0 < sum_of Old d (of_round r ls)) → 0 < sum_of Old d (cond y (l ∷ of_round r ls) (of_round r ls))
    go true p true true q e h = rw p (omega (arith, ltb-true 0 l.old.measure q))
    go true p true false q e h = omega (arith, h e)
    go true p false z q e h = h e
    go false p true z q e h = omega (arith, h e)
    go false p false z q e h = h e
