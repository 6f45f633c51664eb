-- The preliminary lift, over the initial selections: one donor is a branch, and two are a dichotomy of two. The inverse odds balance them: with T = U + E,
-- here and elsewhere, U1 × (U2 × (U2 × T1) + E2 × D) = (U1 × T2 + E1 × U2) × (T2 × U1), where D = T2 × U1 + T1 × U2.
use Prim.Native.Nat.{ℕ, ◌+◌, ◌*◌, ◌-◌, ◌<◌}
use mathlib.Core.Path.{◌≡◌, refl, ap}
use mathlib.Core.List.{List, [], ◌∷◌}
use native.Mathlib.Nat.{mul-pos}
use native.Mathlib.Omega.{arith}
use lib.ListN.{length}
use Rattle.probability.specs.Initial.{Initial}
use Rattle.probability.specs.Branch.{TakenBelow, Known}
use Rattle.probability.proofs.Dichotomy.{join_absent, dichotomy, relabel, known_image}
use Rattle.round.specs.Round.{lift_at, U, D, whole_sums, AreDonors}
use Rattle.round.specs.Choice.{single, first_odds, preliminary_by, preliminary}
use Rattle.round.specs.Share.{mean_over_donors, mean_over_held}
use Rattle.round.specs.declared.Donors.{Donors}
use Rattle.round.specs.declared.Donors.TheVariants.{None, One, Two}
use Rattle.round.specs.declared.Lift.{Lift}
use Rattle.round.proofs.WeightSums.{cross_measure}
use Rattle.round.proofs.Initials.{known_single}

-- one donor against another: the inverse odds
balance : (U₁ E₁ U₂ E₂ T₁ T₂ D : ℕ) → T₁ ≡ U₁ + E₁ → T₂ ≡ U₂ + E₂ → D ≡ T₂ * U₁ + T₁ * U₂
    → U₁ * (U₂ * (U₂ * T₁) + E₂ * D) * D ≡ (U₁ * T₂ + E₁ * U₂) * (T₂ * U₁) * D
balance U₁ E₁ U₂ E₂ T₁ T₂ D e f g =
    let h : U₂ * (U₂ * T₁) + E₂ * D ≡ (U₁ * T₂ + E₁ * U₂) * T₂ = rw (g, e, f) (omega arith) in
    omega (arith, ap (λ t. U₁ * D * t) h)

-- a held lift is here with X / Z, above 0, and then the lift at place i is preliminary with its old measure, times the other donors' T, over D
pub record Knows (ds : Donors) (ls : List Lift) : Type 0 where
  pub X : ℕ
  pub Y : ℕ
  pub Z : ℕ
  pub some : 0 < X
  pub known : Known (λ xs. TakenBelow (length ls) (preliminary ds ls xs)) (mean_over_held ds ls) (preliminary ds ls) (length ls) X Y Z (D ds ls) (λ i. cross_measure ds (lift_at ls i))

-- a round has no donor, or some
pub by_donors : (C : Donors → Type 0) → C None → ((ds : Donors) → 0 < length (whole_sums ds) → C ds) → (ds : Donors) → C ds
by_donors C n s None = n
by_donors C n s (One T) = s (One T) (omega arith)
by_donors C n s (Two T₁ T₂) = s (Two T₁ T₂) (omega arith)

-- in every round with a donor
pub knows : (ds : Donors) (ls : List Lift) → 0 < length (whole_sums ds) → AreDonors 1 (whole_sums ds) ls → Knows ds ls
unfolding mean_over_donors D cross_measure preliminary_by first_odds single
knows None ls p s = absurd (omega arith)
knows (One T) ls p s = record {
  X = U 1 ls;
  Y = T - U 1 ls;
  Z = T;
  some = s.0.some;
  known = known_image (preliminary (One T) ls) (λ x. x ∷ []) (λ x. join_absent (U 1 ls) 0 (single x)) (known_single 1 T ls s.0);
}
knows (Two T₁ T₂) ls p s =
    let s₁ = s.0 in let s₂ = s.1.0 in let u₁ = U 1 ls in let u₂ = U 2 ls in
    let p₂ : 0 < T₂ = omega (arith, s₂.some, s₂.part) in
    let d : ℕ = u₁ * T₂ + u₂ * T₁ in
    let q : 0 < d = omega (arith, mul-pos s₁.some p₂) in
    record {
      X = u₁ * T₂ + (T₁ - u₁) * u₂;
      Y = (T₁ - u₁) * (T₂ - u₂);
      Z = T₁ * T₂;
      some = omega (arith, mul-pos s₁.some p₂);
      known = relabel refl (λ i. omega arith)
          (known_image (preliminary (Two T₁ T₂) ls) (λ (z : Initial × Initial). z.0 ∷ z.1 ∷ []) (λ z. refl)
          (dichotomy (known_single 1 T₁ ls s₁) (known_single 2 T₂ ls s₂) d (u₂ * T₁) T₂ T₁ (u₁ * T₂ + (T₁ - u₁) * u₂) d q (omega arith) q refl (omega arith)
          (balance u₁ (T₁ - u₁) u₂ (T₂ - u₂) T₁ T₂ d (omega (arith, s₁.part)) (omega (arith, s₂.part)) (omega arith))));
    }
