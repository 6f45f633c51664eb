-- What is proved of every round besides its shares and its keeping (proofs/Laws.antt).
use Rattle.std.specs.Prelude.{ℕ, ◌-◌, ◌*◌, ◌^◌, ◌≤◌, ◌<◌, ◌≡◌, List, [], ◌∷◌, map, length}
use Rattle.probability.specs.Sum.{total}
use Rattle.probability.specs.Initial.{Initial}
use Rattle.probability.specs.Plan.{Every, Drawable, DrawsAtMost}
use Rattle.round.specs.Round.{lift_at, S, D, weights, weight_at, G, whole_sums, WellPosed}
use Rattle.round.specs.Choice.{plan}
use Rattle.round.specs.Rows.{Bounded, IfHere, Stands}
use Rattle.round.specs.declared.Donors.{Donors}
use Rattle.round.specs.declared.Lift.{Lift}

-- the sums and products of a round fit 64 bits
pub record Fits64 (ds : Donors) (ls : List Lift) : Type 0 where
  pub scale : D ds ls ≤ 2 ^ 41
  -- "Both weights sum to D × S, at most 2^61."
  pub whole : D ds ls * S ls ≤ 2 ^ 61
  pub growths : G (weights ds ls) ≤ 2 ^ 61
  pub old : (i : ℕ) → i < length ls → (weight_at (weights ds ls) i).old ≤ 2 ^ 61
  pub new : (i : ℕ) → i < length ls → (weight_at (weights ds ls) i).new ≤ 2 ^ 61

-- the lifts held here have an old weight above 0
abbrev pub Weighty : Donors → List Lift → List Initial → Type 0
Weighty ds ls [] = Unit {0}
Weighty ds ls (x ∷ xs) = IfHere (λ i. 0 < (weight_at (weights ds ls) i).old) x × Weighty ds ls xs

pub record Lawful (ds : Donors) (ls : List Lift) : Type 0 where
  -- "Both weights sum to D × S"
  pub olds : total (map (λ w. w.old) (weights ds ls)) ≡ D ds ls * S ls
  pub news : total (map (λ w. w.new) (weights ds ls)) ≡ D ds ls * S ls
  -- G is the sum of the losses too
  pub losses : total (map (λ w. w.old - w.new) (weights ds ls)) ≡ G (weights ds ls)
  -- where a lift may be dropped there is a growth above zero
  pub grows : (i : ℕ) → i < length ls → (weight_at (weights ds ls) i).new < (weight_at (weights ds ls) i).old → 0 < G (weights ds ls)
  -- "A round takes at most three draws."
  pub three : (xs : List Initial) → DrawsAtMost 3 (plan ds ls xs)
  -- every draw has a value
  pub drawable : WellPosed ds ls → (xs : List Initial) → Stands (whole_sums ds) xs (length ls) → Drawable (plan ds ls xs)
  -- a lift of new measure 0 is never chosen, neither kept nor taken
  pub chosen : 0 < S ls → (xs : List Initial) → Weighty ds ls xs → Every (λ s. 0 < (lift_at ls s.place).new) (plan ds ls xs)
  -- within the sheet's bounds everything fits 64 bits
  pub fits : WellPosed ds ls → Bounded ds ls → Fits64 ds ls

-- proved: in every round
abbrev pub LawsTheorem : Type 0
LawsTheorem = (ds : Donors) (ls : List Lift) → Lawful ds ls
