-- A round that does not change: each lift is of the one donor and keeps its measure, so the held lift stays and nothing is drawn.
use Prim.Native.Nat.{ℕ, zero, suc, ◌+◌, ◌*◌, ◌≤◌}
use mathlib.Core.Path.{◌≡◌, refl, ap₂}
use mathlib.Core.Bool.{false}
use mathlib.Core.List.Memᴰ
use mathlib.Core.List.{List, [], ◌∷◌, map}
use native.Mathlib.Omega.{arith}
use borrow.Author.Tests.{eq-eqb, le-leb}
use Rattle.probability.specs.Sum.{total, total_by}
use Rattle.probability.specs.Plan.{done, bind}
use Rattle.probability.proofs.Lists.{All}
use Rattle.round.specs.Round.{S, U, D, measure_from, old_weight, new_weight, weights, weight_at}
use Rattle.probability.specs.Initial.{here}
use Rattle.probability.specs.Branch.{join, update_or}
use Rattle.round.specs.Choice.{selection, single, preliminary_by, stay_or, keyfitz, plan_by, plan}
use Rattle.round.specs.declared.Donors.TheVariants.{One}
use Rattle.round.specs.declared.Lift.{Lift}

pub record Still (l : Lift) : Type 0 where
  pub donor : l.donor ≡ 1
  pub same : l.old ≡ l.new

still_sums : (us : List Lift) → All Still us → U 1 us ≡ S us
unfolding U S total total_by
still_sums [] h = refl
still_sums (u ∷ us) h =
    let s = h u (Memᴰ.head refl) in
    ap₂ ◌+◌ (rw (eq-eqb u.donor 1 s.donor) s.same) (still_sums us (λ l m. h l (Memᴰ.tail m)))

pub still_plan : (T : ℕ) (us : List Lift) → All Still us → (i : ℕ) → plan (One T) us (here i ∷ []) ≡ done (selection i false)
unfolding plan_by preliminary_by single join update_or bind keyfitz stay_or weights old_weight new_weight D
still_plan T us h i = rw (le-leb _ _ (no_loss us h i))
  where
    no_loss : (vs : List Lift) → All Still vs → (i : ℕ)
        → (weight_at (map (λ l. record { old = measure_from 1 l * S us; new = l.new * U 1 us }) vs) i).old ≤ (weight_at (map (λ l. record { old = measure_from 1 l * S us; new = l.new * U 1 us }) vs) i).new
    no_loss [] k i = omega arith
    no_loss (v ∷ vs) k zero =
        let s = k v (Memᴰ.head refl) in
        rw (eq-eqb v.donor 1 s.donor, s.same, still_sums us h) (omega arith)
    no_loss (v ∷ vs) k (suc i) = no_loss vs (λ l m. k l (Memᴰ.tail m)) i
