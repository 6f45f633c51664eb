-- The weights of a round as the code computes them: measures times multipliers.
use Rattle.std.specs.Prelude.{ℕ, ◌*◌, ◌^◌, ◌≤◌, ◌≡◌, cond, List, [], ◌∷◌, map, length, eqb}
use Rattle.probability.specs.Sum.{total}
use Rattle.round.specs.Round.{S, U, D, old_weight, whole_sums}
use Rattle.round.specs.Choice.{first_odds}
use Rattle.round.specs.Rows.{lift_of_measures, row_lifts, capacity, SumsBounded}
use Rattle.round.specs.declared.Donors.{Donors}
use Rattle.round.specs.declared.Donors.TheVariants.{None, One, Two}
use Rattle.round.specs.declared.Lift.{Lift}
use Rattle.round.specs.declared.Weight.{Weight}
use Rattle.weights.specs.declared.Scale.{Scale}
use Rattle.weights.specs.declared.Sums.{Sums}

-- these are the sums of the round: S, and U of each of its donors
pub record HasSums (ds : Donors) (ls : List Lift) (t : Sums) : Type 0 where
  pub new : t.new ≡ S ls
  pub first : 1 ≤ length (whole_sums ds) → t.first ≡ U 1 ls
  pub second : 2 ≤ length (whole_sums ds) → t.second ≡ U 2 ls

-- with two donors the products of the sums fit 64 bits
abbrev pub ProductsFit : Donors → Sums → Type 0
ProductsFit None t = Unit {0}
ProductsFit (One T) t = Unit {0}
ProductsFit (Two T₁ T₂) t = SumsBounded (T₁ ∷ T₂ ∷ []) × ((t.new ≤ capacity) × (t.first ≤ capacity) × (t.second ≤ capacity))

-- what a donor's old measures are multiplied by
abbrev pub multiplier_of : Scale → ℕ → ℕ
multiplier_of s d = cond (eqb d 1) s.first (cond (eqb d 2) s.second 0)

-- a lift's old and new weight by the multipliers
abbrev pub scaled : Scale → Lift → Weight
scaled s l = record { old = l.old * multiplier_of s l.donor; new = l.new * s.new }

-- the weights of the lifts of rows, by the multipliers
abbrev pub weights_by : Scale → List ℕ → List Weight
weights_by s rows = map (scaled s) (row_lifts rows)

-- the multipliers that give a round's weights: D, and the old weight of a lift of old measure 1 from donor 1, and from donor 2; and
-- U2 × T1 with them
abbrev pub scale_of : Donors → List Lift → Scale
scale_of ds ls =
    record { new = D ds ls; first = old_weight ds ls (lift_of_measures 1 1 0); second = old_weight ds ls (lift_of_measures 1 2 0); odds = first_odds ds ls }

-- the multipliers with which each lift grows by its whole new measure
abbrev pub wholly : Scale
wholly = record { new = 1; first = 0; second = 0; odds = 0 }

-- "at most 2^61": the old weights together and the new weights together
pub record WeightsFit (s : Scale) (ls : List Lift) : Type 0 where
  pub olds : total (map (λ l. (scaled s l).old) ls) ≤ 2 ^ 61
  pub news : total (map (λ l. (scaled s l).new) ls) ≤ 2 ^ 61

-- the weights of one lift
pub record LiftWeightsFit (s : Scale) (l : Lift) : Type 0 where
  pub old : (scaled s l).old ≤ 2 ^ 61
  pub new : (scaled s l).new ≤ 2 ^ 61

-- "Both weights sum to D × S": the old weights and the new ones have the same sum
pub record Balanced (s : Scale) (ls : List Lift) : Type 0 where
  pub sums : total (map (λ l. (scaled s l).old) ls) ≡ total (map (λ l. (scaled s l).new) ls)

-- how many lifts are lent at a time: a round is searched in blocks of this length, the last one shorter
abbrev pub block_length : ℕ
block_length = 8
