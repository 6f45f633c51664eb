-- What the paths of a round weigh over all initial selections of its donors ("What demand 3 weighs" of document 01, for one round).
use Rattle.std.specs.Prelude.{ℕ, suc, ◌-◌, ◌*◌, ◌<◌, min, ◌≡◌, Bool, true, List, [], ◌∷◌, map, length, eqb}
use Rattle.probability.specs.Sum.{total}
use Rattle.probability.specs.Initial.{Initial, here, elsewhere}
use Rattle.probability.specs.Fraction.{Fraction, ◌//◌, ◌⊕◌, ◌⊗◌, ◌≈◌, sum}
use Rattle.probability.specs.Plan.{Drawable, paths, weight, mass}
use Rattle.probability.specs.Branch.{Branch, absent, present, presence}
use Rattle.round.specs.Round.{lift_at, S, measure_from, U, D, old_weight, weight_at, whole_sums, WellPosed}
use Rattle.round.specs.Choice.{Update, preliminary, plan_by}
use Rattle.round.specs.declared.Selection.{Selection}
use Rattle.round.specs.declared.Donors.{Donors}
use Rattle.round.specs.declared.Lift.{Lift}
use Rattle.round.specs.declared.Weight.{Weight}

-- ---- the mean over initial selections

-- the mean of f over the initial selections of donor k: "A marking names one lift of old measure above 0 in each old round",
-- each weighed by its old measure over the donor's whole old sum T; lifts that are not of donor k weigh 0
unfoldable pub mean_over_initial : ℕ → ℕ → List Lift → (Initial → Fraction) → Fraction
mean_over_initial k T ls f = sum (length ls) (λ i. measure_from k (lift_at ls i) // T ⊗ f (here i)) ⊕ (T - U k ls) // T ⊗ f elsewhere

-- the mean of f over the initial selections of the donors from number k up, of these whole old sums: donors are independent,
-- "the product of the held lifts' old measures over the product of all old sums"
unfoldable pub mean_over_donors : ℕ → List ℕ → List Lift → (List Initial → Fraction) → Fraction
mean_over_donors k [] ls f = f []
mean_over_donors k (T ∷ Ts) ls f = mean_over_initial k T ls (λ x. mean_over_donors (suc k) Ts ls (λ xs. f (x ∷ xs)))

-- the mean of f over where the held lifts of a round's donors are
abbrev pub mean_over_held : Donors → List Lift → (List Initial → Fraction) → Fraction
mean_over_held ds ls f = mean_over_donors 1 (whole_sums ds) ls f

-- ---- updates

-- whether the lift at place j is chosen
abbrev pub chooses : ℕ → Selection → Bool
chooses j s = eqb s.place j

-- the smaller of both weights
abbrev pub smaller : Weight → ℕ
smaller w = min w.old w.new

-- old and new weights each sum to N, above 0
pub record SameSum (ws : List Weight) (N : ℕ) : Type 0 where
  pub positive : 0 < N
  pub olds : total (map (λ w. w.old) ws) ≡ N
  pub news : total (map (λ w. w.new) ws) ≡ N

-- an update is exact where every unit has its plan and, if each unit is preliminary with its old weight over the sum N, each is chosen
-- with its new weight over N
pub record Exact (update : Update) : Type 0 where
  pub drawable : {ws : List Weight} {N : ℕ} → SameSum ws N → (i : ℕ) → i < length ws → Drawable (update ws i)
  pub exact : {ws : List Weight} {N : ℕ} → SameSum ws N → (j : ℕ) → j < length ws
      → sum (length ws) (λ i. (weight_at ws i).old // N ⊗ mass (chooses j) (update ws i)) ≈ (weight_at ws j).new // N

-- and it is staying where then a unit stays with the smaller of both weights over N
pub record Staying (update : Update) : Type 0 where
  pub stays : {ws : List Weight} {N : ℕ} → SameSum ws N
      → sum (length ws) (λ i. (weight_at ws i).old // N ⊗ mass (chooses i) (update ws i)) ≈ total (map smaller ws) // N

-- ---- the shares of a round

-- the total weight of the paths that choose the lift at place j
unfoldable pub round_share : Update → Donors → List Lift → ℕ → Fraction
round_share update ds ls j = mean_over_held ds ls (λ xs. weight (chooses j) (paths (plan_by update ds ls xs)))

-- the weight of the paths on which the lift at place i is taken
abbrev pub taken_weight : ℕ → Branch → Fraction
taken_weight i absent = 0 // 1
taken_weight i (present p) = weight (λ a. eqb a i) (paths p)

-- "For each lift of the round, b = 0 included, the ways that have it as their lift weigh together exactly b over S."
pub record Shares (update : Update) (ds : Donors) (ls : List Lift) : Type 0 where
  pub shares : (j : ℕ) → j < length ls → round_share update ds ls j ≈ (lift_at ls j).new // S ls
  -- where there is a donor (D above 0), a held lift may be here, and given that one is, the lift at place i is preliminary with
  -- its old weight over D × S
  pub some : 0 < D ds ls → 0 < (mean_over_held ds ls (λ xs. presence (preliminary ds ls xs) // 1)).num
  pub preliminaries : 0 < D ds ls → (i : ℕ) → i < length ls
      → mean_over_held ds ls (λ xs. taken_weight i (preliminary ds ls xs))
      ≈ mean_over_held ds ls (λ xs. presence (preliminary ds ls xs) // 1) ⊗ old_weight ds ls (lift_at ls i) // (D ds ls * S ls)
  -- all paths weigh 1 together
  pub whole : mean_over_held ds ls (λ xs. weight (λ _. true) (paths (plan_by update ds ls xs))) ≈ 1 // 1

-- proved: by every exact update, in every well-posed round
abbrev pub SharesTheorem : Type 0
SharesTheorem = (update : Update) → Exact update → (ds : Donors) (ls : List Lift) → WellPosed ds ls → Shares update ds ls
