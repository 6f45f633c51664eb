-- Laws of a round's weights: both sum to D × S, the growths make up for the losses, and all of it is at most 2^61.
use Prim.Native.Nat.{ℕ, zero, suc, ◌+◌, ◌-◌, ◌*◌, ◌^◌, ◌≤◌, ◌<◌}
use mathlib.Core.Path.{◌≡◌, refl, sym, ap, ap₂, fun_ext, ◌∙◌}
use mathlib.Core.List.{List, [], ◌∷◌, map}
use native.Mathlib.Nat.{mul-le-mul}
use native.Mathlib.Omega.{arith}
use lib.ListN.{length}
use Rattle.probability.specs.Sum.{total}
use Rattle.probability.proofs.Sums.{total_map, total_mul, total_add, map_le, total_by_map}
use Rattle.round.specs.Round.{S, measure_from, U, D, old_weight, new_weight, weights, weight_at, G, whole_sums, AreDonors, WellPosed}
use Rattle.round.specs.Rows.{capacity, Bounded, SumsBounded}
use Rattle.round.specs.declared.Donors.{Donors}
use Rattle.round.specs.declared.Donors.TheVariants.{None, One, Two}
use Rattle.round.specs.declared.Lift.{Lift}
use Rattle.round.specs.declared.Weight.{Weight}

-- what a unit loses, where its growth is below zero
abbrev pub loss : Weight → ℕ
loss w = w.old - w.new

-- ---- both weights sum to D × S

-- U by the lifts' own parts
pub U_sum : (k : ℕ) (ls : List Lift) → U k ls ≡ total (map (measure_from k) ls)
unfolding U
U_sum k ls = total_by_map (λ l. l.donor) (λ l. l.old) k ls

-- a lift's old measure times the other donors' T: its old weight but for S
unfoldable pub cross_measure : Donors → Lift → ℕ
cross_measure None l = 0
cross_measure (One T) l = measure_from 1 l
cross_measure (Two T₁ T₂) l = measure_from 1 l * T₂ + measure_from 2 l * T₁

pub old_cross : (ds : Donors) (ls : List Lift) (l : Lift) → old_weight ds ls l ≡ cross_measure ds l * S ls
unfolding old_weight cross_measure
old_cross None ls l = omega arith
old_cross (One T) ls l = refl
old_cross (Two T₁ T₂) ls l = refl

cross_total : (ds : Donors) (ls : List Lift) → total (map (cross_measure ds) ls) ≡ D ds ls
unfolding cross_measure D
cross_total None ls = total_mul (λ _. 0) 0 ls ∙ omega arith
cross_total (One T) ls = sym (U_sum 1 ls)
cross_total (Two T₁ T₂) ls =
    rw (U_sum 1 ls, U_sum 2 ls) (total_add (λ l. measure_from 1 l * T₂) (λ l. measure_from 2 l * T₁) ls ∙ ap₂ ◌+◌ (total_mul (measure_from 1) T₂ ls) (total_mul (measure_from 2) T₁ ls))

pub old_sum : (ds : Donors) (ls : List Lift) → total (map (λ w. w.old) (weights ds ls)) ≡ D ds ls * S ls
unfolding weights
old_sum ds ls =
    total_map _ (λ w. w.old) ls ∙ ap (λ f. total (map f ls)) (fun_ext (old_cross ds ls)) ∙ total_mul (cross_measure ds) (S ls) ls ∙ ap (λ t. t * S ls) (cross_total ds ls)

pub new_sum : (ds : Donors) (ls : List Lift) → total (map (λ w. w.new) (weights ds ls)) ≡ D ds ls * S ls
unfolding weights new_weight S
new_sum ds ls = total_map _ (λ w. w.new) ls ∙ total_mul (λ l. l.new) (D ds ls) ls ∙ omega arith

-- ---- growths and losses

balance : (ws : List Weight) → total (map (λ w. w.old) ws) + G ws ≡ total (map (λ w. w.new) ws) + total (map loss ws)
unfolding total G
balance [] = refl
balance (w ∷ ws) = omega (arith, balance ws)

-- G is the sum of the losses too
pub losses : (ws : List Weight) → total (map (λ w. w.old) ws) ≡ total (map (λ w. w.new) ws) → total (map loss ws) ≡ G ws
losses ws e = omega (arith, balance ws)

-- a unit that may be dropped leaves a growth above zero
pub dropped_G : (ws : List Weight) (i : ℕ) → total (map (λ w. w.old) ws) ≡ total (map (λ w. w.new) ws) → i < length ws
    → (weight_at ws i).new < (weight_at ws i).old → 0 < G ws
dropped_G ws i e l h = omega (arith, losses ws e, map_le loss (record { old = 0; new = 0 }) ws i l)

-- ---- bounds

pub G_le : (ws : List Weight) → G ws ≤ total (map (λ w. w.new) ws)
unfolding G total
G_le [] = omega arith
G_le (w ∷ ws) = omega (arith, G_le ws)

-- what donors sent has room
pub came : (k : ℕ) (Ts : List ℕ) (ls : List Lift) → AreDonors k Ts ls → SumsBounded Ts → (i : ℕ) → i < length Ts → U (k + i) ls ≤ capacity
came k [] ls d b i l = absurd (omega arith)
came k (T ∷ Ts) ls d b zero l = let e : k + 0 ≡ k = omega arith in rw e (omega (arith, d.0.part, b.0))
came k (T ∷ Ts) ls d b (suc i) l = let e : k + suc i ≡ suc k + i = omega arith in rw e (came (suc k) Ts ls d.1 b.1 i (omega arith))

pub D_bound : (ds : Donors) (ls : List Lift) → AreDonors 1 (whole_sums ds) ls → SumsBounded (whole_sums ds) → D ds ls ≤ 2 ^ 41
unfolding D
D_bound None ls d b = omega arith
D_bound (One T) ls d b = omega (arith, came 1 (T ∷ []) ls d b 0 (omega arith))
D_bound (Two T₁ T₂) ls d b =
    let u = came 1 (T₁ ∷ T₂ ∷ []) ls d b in
    omega (arith, mul-le-mul (u 0 (omega arith)) b.1.0, mul-le-mul (u 1 (omega arith)) b.0)

-- "at most 2^61"
pub weight_bound : (ds : Donors) (ls : List Lift) → WellPosed ds ls → Bounded ds ls → D ds ls * S ls ≤ 2 ^ 61
weight_bound ds ls f b = omega (arith, mul-le-mul (D_bound ds ls f.donate b.old) b.new)
