-- "One round" of document 01: the lifts of a new round, its sums, and the weights and growths of its lifts. A lift is the code's
-- `Lift`: old measure, donor and new measure; its weights are the code's `Weight`.
use Rattle.std.specs.Prelude.{ℕ, suc, ◌+◌, ◌-◌, ◌*◌, ◌≤◌, ◌<◌, List, [], ◌∷◌, map, get_or}
use Rattle.probability.specs.Sum.{total, value_by, total_by}
use Rattle.round.specs.declared.Donors.{Donors}
use Rattle.round.specs.declared.Donors.TheVariants.{None, One, Two}
use Rattle.round.specs.declared.Lift.{Lift}
use Rattle.round.specs.declared.Weight.{Weight}

-- the lift at a place of the round; one of measure 0 beyond the last
abbrev pub lift_at : List Lift → ℕ → Lift
lift_at ls i = get_or ls i (record { old = 0; donor = 0; new = 0 })

-- S: "the new round's sum of b"
unfoldable pub S : List Lift → ℕ
S ls = total (map (λ l. l.new) ls)

-- "U is the part of T that came here", T being the whole old sum of donor k
unfoldable pub U : ℕ → List Lift → ℕ
U k ls = total_by (λ l. l.donor) (λ l. l.old) k ls

-- the old measure that a lift brings from donor k
abbrev pub measure_from : ℕ → Lift → ℕ
measure_from k l = value_by (λ l. l.donor) (λ l. l.old) k l

-- "One donor: D = U." "Two donors: D = U1 × T2 + U2 × T1." Without a donor there is none.
unfoldable pub D : Donors → List Lift → ℕ
D None ls = 0
D (One T) ls = U 1 ls
D (Two T₁ T₂) ls = U 1 ls * T₂ + U 2 ls * T₁

-- "a lift's old weight is m × S"; with two donors "m × T(other donor) × S": a lift of old measure above 0 comes from one donor
unfoldable pub old_weight : Donors → List Lift → Lift → ℕ
old_weight None ls l = 0
old_weight (One T) ls l = measure_from 1 l * S ls
old_weight (Two T₁ T₂) ls l = (measure_from 1 l * T₂ + measure_from 2 l * T₁) * S ls

-- "New weight is b × D."
unfoldable pub new_weight : Donors → List Lift → Lift → ℕ
new_weight ds ls l = l.new * D ds ls

-- the weights of the round's lifts, in lift order
unfoldable pub weights : Donors → List Lift → List Weight
weights ds ls = map (λ l. record { old = old_weight ds ls l; new = new_weight ds ls l }) ls

-- the weights at a place
abbrev pub weight_at : List Weight → ℕ → Weight
weight_at ws i = get_or ws i (record { old = 0; new = 0 })

-- "Growth is new weight minus old weight": where it is above zero, else 0
abbrev pub growth : Weight → ℕ
growth w = w.new - w.old

-- "G is the sum of the growths above zero."
unfoldable pub G : List Weight → ℕ
G ws = total (map growth ws)

-- "Old round t is a donor of a new round if it sends it a lift of old measure above 0": U of donor k is above 0, and a part of
-- the donor's whole old sum T
pub record IsDonor (k T : ℕ) (ls : List Lift) : Type 0 where
  pub some : 0 < U k ls
  pub part : U k ls ≤ T

-- the whole old sums of the donors, in the order of their numbers
abbrev pub whole_sums : Donors → List ℕ
whole_sums None = []
whole_sums (One T) = T ∷ []
whole_sums (Two T₁ T₂) = T₁ ∷ T₂ ∷ []

-- the donors from number k up, of these whole old sums, send the round measure
abbrev pub AreDonors : ℕ → List ℕ → List Lift → Type 0
AreDonors k [] ls = Unit {0}
AreDonors k (T ∷ Ts) ls = IsDonor k T ls × AreDonors (suc k) Ts ls

-- the sum of the round is above 0 (refusal 9), and each donor sends it measure; every round of a fitting sheet is well-posed
pub record WellPosed (ds : Donors) (ls : List Lift) : Type 0 where
  pub positive : 0 < S ls
  pub donate : AreDonors 1 (whole_sums ds) ls
