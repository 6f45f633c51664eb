-- A round lent as rows, and what a caller shows of it.
use Rattle.std.specs.Prelude.{ℕ, ◌^◌, ◌≤◌, ◌<◌, ◌≡◌, List, [], ◌∷◌, map, length, get_or, Option, Some, None}
use Rattle.probability.specs.Pieces.{pieces}
use Rattle.probability.specs.Initial.{Initial, here, elsewhere}
use Rattle.round.specs.Round.{S, whole_sums, WellPosed}
use Rattle.round.specs.declared.Donors.{Donors}
use Rattle.round.specs.declared.Held.{Held}
use Rattle.round.specs.declared.Lift.{Lift}

-- the lift of an old measure, a donor and a new measure
abbrev pub lift_of_measures : ℕ → ℕ → ℕ → Lift
lift_of_measures m d b = record { old = m; donor = d; new = b }

-- how many numbers a row has
abbrev pub row_length : ℕ
row_length = 4

-- the lift of a row: behind a number that is the caller's, donor, old measure, new measure
abbrev pub row_lift : List ℕ → Lift
row_lift row = lift_of_measures (get_or row 2 0) (get_or row 1 0) (get_or row 3 0)

-- the lifts of a round lent as rows, in lift order
unfoldable pub row_lifts : List ℕ → List Lift
row_lifts rows = map row_lift (pieces row_length rows)

-- sums up to this bound have products that fit 64 bits; the sheet's largest sum is not above it
abbrev pub capacity : ℕ
capacity = 2 ^ 20

-- no whole old sum is above the bound
abbrev pub SumsBounded : List ℕ → Type 0
SumsBounded [] = Unit {0}
SumsBounded (T ∷ Ts) = (T ≤ capacity) × SumsBounded Ts

-- no sum of the round is above the bound
pub record Bounded (ds : Donors) (ls : List Lift) : Type 0 where
  pub new : S ls ≤ capacity
  pub old : SumsBounded (whole_sums ds)

-- where a held lift is, by its place in the round, if it has one
abbrev pub initial_of : Option ℕ → Initial
initial_of (Some i) = here i
initial_of None = elsewhere

-- where the held lifts of donor 1 and donor 2 are
abbrev pub initials : Held → List Initial
initials h = initial_of h.first ∷ initial_of h.second ∷ []

-- the place of a held lift that is here satisfies R
abbrev pub IfHere : (ℕ → Type 0) → Initial → Type 0
IfHere R (here i) = R i
IfHere R elsewhere = Unit {0}

-- a held lift that is here stands at a place below n
abbrev pub Inside : ℕ → Initial → Type 0
Inside n x = IfHere (λ i. i < n) x

-- the held lifts of the donors of these whole old sums stand at places below n, and there is none without a donor
abbrev pub Stands : List ℕ → List Initial → ℕ → Type 0
Stands Ts [] n = Unit {0}
Stands [] (x ∷ xs) n = (x ≡ elsewhere) × Stands [] xs n
Stands (T ∷ Ts) (x ∷ xs) n = Inside n x × Stands Ts xs n

-- what a caller must show of a round and its held lifts; those of every fitting sheet have it
pub record Callable (ds : Donors) (ls : List Lift) (h : Held) : Type 0 where
  pub fitting : WellPosed ds ls
  pub bounded : Bounded ds ls
  pub stands : Stands (whole_sums ds) (initials h) (length ls)
