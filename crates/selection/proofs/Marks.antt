-- An initial selection changes held marks alone: rounds, sums and donors stay.
use Prim.Native.Nat.{ℕ, ◌+◌}
use mathlib.Core.Path.{◌≡◌, refl, ap, ap₂, fun_ext}
use mathlib.Core.Bool.{Bool, true, false, cond, ◌||◌}
use mathlib.Core.List.{List, [], ◌∷◌, map, map-map}
use lib.Dec.{eqb, ltb}
use lib.ListN.{length, length-map}
use Rattle.probability.specs.Sum.{total_by}
use Rattle.sheet.specs.Sheet.{most_rounds, Lift}
use Rattle.sheet.specs.Lift.{Side, Old, New, place_at}
use Rattle.tally.proofs.Ranges.{filter_ext}
use Rattle.tally.specs.Rounds.{lift_count, in_use, sum_of, brings, sends, donors, of_round, donor_number}
use Rattle.selection.specs.Choice.{with_sums, donors_of, in_round, lifts_of}
use Rattle.selection.specs.Initial.{holding, marked}

module _ (m : List Lift) where
  place_holding : (side : Side) (l : Lift) → place_at side (holding m l) ≡ place_at side l
  place_holding Old l = refl
  place_holding New l = refl

  -- a sum by round of what the marks don't change
  total_by_marked : (side : Side) (value : Lift → ℕ) → ((l : Lift) → value (holding m l) ≡ value l) → (r : ℕ) (ls : List Lift)
      → total_by (λ l. (place_at side l).round) value r (marked m ls) ≡ total_by (λ l. (place_at side l).round) value r ls
  unfolding marked total_by
  total_by_marked side value h r [] = refl
  total_by_marked side value h r (l ∷ ls) =
      ap₂ ◌+◌ (ap₂ (λ p v. cond (eqb p.round r) v 0) (place_holding side l) (h l)) (total_by_marked side value h r ls)

  pub named_marked : (side : Side) (r : ℕ) (ls : List Lift) → lift_count side r (marked m ls) ≡ lift_count side r ls
  named_marked side r ls = total_by_marked side (λ _. 1) (λ l. refl) r ls

  pub sum_of_marked : (side : Side) (r : ℕ) (ls : List Lift) → sum_of side r (marked m ls) ≡ sum_of side r ls
  sum_of_marked side r ls = total_by_marked side (λ l. (place_at side l).measure) (λ l. ap (λ p. p.measure) (place_holding side l)) r ls

  pub in_use_marked : (side : Side) (ls : List Lift) → in_use side (marked m ls) ≡ in_use side ls
  in_use_marked side ls = filter_ext 1 most_rounds (λ r _ _. ap (ltb 0) (named_marked side r ls))

  pub sends_marked : (t r : ℕ) (ls : List Lift) → sends t r (marked m ls) ≡ sends t r ls
  unfolding marked sends
  sends_marked t r [] = refl
  sends_marked t r (l ∷ ls) = ap (λ x. brings t r l || x) (sends_marked t r ls)

  pub donors_marked : (r : ℕ) (ls : List Lift) → donors r (marked m ls) ≡ donors r ls
  donors_marked r ls = filter_ext 1 most_rounds (λ t _ _. sends_marked t r ls)

  pub of_round_marked : (r : ℕ) (ls : List Lift) → of_round r (marked m ls) ≡ marked m (of_round r ls)
  unfolding marked of_round
  of_round_marked r [] = refl
  of_round_marked r (l ∷ ls) = go (eqb l.new.round r) (of_round_marked r ls)
    where
      go : (t : Bool) → of_round r (marked m ls) ≡ marked m (of_round r ls)
          → cond t (holding m l ∷ of_round r (marked m ls)) (of_round r (marked m ls)) ≡ marked m (cond t (l ∷ of_round r ls) (of_round r ls))
      go true e = ap (λ x. holding m l ∷ x) e
      go false e = e

  pub length_marked : (ls : List Lift) → length (marked m ls) ≡ length ls
  unfolding marked
  length_marked ls = length-map ls (holding m)

  -- the round as the choice sees it
  pub lifts_of_marked : (r : ℕ) (ls : List Lift) → lifts_of r (marked m ls) ≡ lifts_of r ls
  unfolding lifts_of marked
  lifts_of_marked r ls =
      rw (donors_marked r ls, of_round_marked r ls)
      (map-map (in_round (donor_number (donors r ls))) (holding m) (of_round r ls))

  pub donors_of_marked : (r : ℕ) (ls : List Lift) → donors_of r (marked m ls) ≡ donors_of r ls
  unfolding donors_of
  donors_of_marked r ls = rw (donors_marked r ls) (ap (λ T. with_sums (map T (donors r ls))) (fun_ext (λ t. sum_of_marked Old t ls)))
