-- Demand 3 from the theorems of one round: the mean over all initial selections is the mean over the round's held lifts.
use Prim.Native.Nat.{ℕ, zero, suc, ◌*◌, ◌≤◌, ◌<◌}
use mathlib.Core.Path.{◌≡◌, refl, ap, ◌∙◌}
use mathlib.Core.List.{List, [], ◌∷◌, map, Memᴰ}
use native.Mathlib.Omega.{arith}
use lib.Dec.{ltb}
use lib.ListN.{length, get_or, length-map}
use borrow.Author.Tests.{ltb-true}
use Rattle.probability.specs.Initial.{Initial}
use Rattle.probability.specs.Fraction.{Fraction, ◌//◌, ◌≈◌}
use Rattle.probability.specs.Plan.{paths, weight}
use Rattle.probability.proofs.Fractions.{≈-sym, ≈-trans}
use Rattle.round.specs.Round.{lift_at as round_lift_at, U, D, weights}
use Rattle.round.specs.Choice.{Update, plan_by, is_held}
use Rattle.round.specs.Share.{mean_over_held, chooses, Exact, Staying, round_share}
use Rattle.round.specs.Keep.{round_kept, Best}
use Rattle.round.specs.declared.Donors.TheVariants.{One}
use Rattle.round.proofs.Shares.{shares as round_shares}
use Rattle.round.proofs.Keeping.{best-≈, keeps as round_keeps}
use Rattle.sheet.specs.Sheet.{most_rounds, Lift, sheet_of}
use Rattle.tally.specs.Law.{Fit}
use Rattle.sheet.specs.Lift.{Old, New, place_at}
use Rattle.tally.proofs.Ranges.{filter_in}
use Rattle.tally.specs.Rounds.{lift_count, in_use, sum_of, donors, of_round, donor_number}
use Rattle.selection.specs.Choice.{donors_of, in_round, lifts_of, held_of_round, plan_of, no_lift, lift_in_round, Way, by_update}
use Rattle.selection.specs.Initial.{marked, mean_over_selections}
use Rattle.selection.specs.Fair.{share, kept, RunsTheorem, FairTheorem}
use Rattle.selection.proofs.Marks.{in_use_marked, donors_of_marked, lifts_of_marked}
use Rattle.selection.proofs.RoundsFit.{donors_sums, S_round, round_fits}
use Rattle.selection.proofs.Weighing.{selections_ext, weight_ext, weight_den}
use Rattle.selection.proofs.Following.{carries}
use Rattle.selection.proofs.Selections.{transfer, whole}
use Rattle.selection.proofs.MarkedFits.{crowded_marked, back, marked_fits, flags}

-- the plan of a round of the lifts so marked
plan_marked : (update : Update) (m : List Lift) (r : ℕ) (ls : List Lift) → plan_of update r (marked m ls) ≡ plan_by update (donors_of r ls) (lifts_of r ls) (held_of_round r (marked m ls))
unfolding plan_of
plan_marked update m r ls = rw (donors_of_marked m r ls, lifts_of_marked m r ls)

length_lifts : (r : ℕ) (ls : List Lift) → length (lifts_of r ls) ≡ length (of_round r ls)
unfolding lifts_of
length_lifts r ls = length-map (of_round r ls) (in_round (donor_number (donors r ls)))

-- the lift at a place has the same new measure for the round
new_at : (r : ℕ) (ls : List Lift) (j : ℕ) → (round_lift_at (lifts_of r ls) j).new ≡ (place_at New (lift_in_round r ls j)).measure
unfolding lifts_of lift_in_round
new_at r ls j = go (of_round r ls) j
  where
    go : (us : List Lift) (j : ℕ)
        → (round_lift_at (map (in_round (donor_number (donors r ls))) us) j).new ≡ (place_at New (get_or us j no_lift)).measure
    go [] j = refl
    go (u ∷ us) zero = refl
    go (u ∷ us) (suc j) = go us j

module _ (update : Update) (x : Exact update) (y : Staying update) {ls : List Lift} (f : Fit ls) {r : ℕ} (low : 1 ≤ r) (high : r ≤ most_rounds) (some : 0 < lift_count New r ls) where
  abbrev way : Way
  way = by_update update

  -- what looks only at the held lifts of the round
  moved : (F : List Initial → Fraction) → ((xs : List Initial) → 0 < (F xs).den) → mean_over_selections ls (λ ms. F (held_of_round r ms)) ≈ mean_over_held (donors_of r ls) (lifts_of r ls) F
  moved F u = rw (donors_sums f low high) (transfer ls f r F u)

  fair_shares : (j : ℕ) → j < length (of_round r ls) → share way ls r j ≈ (place_at New (lift_in_round r ls j)).measure // sum_of New r ls
  unfolding share round_share
  fair_shares j l =
      let F : List Initial → Fraction = λ xs. weight (chooses j) (paths (plan_by update (donors_of r ls) (lifts_of r ls) xs)) in
      rw (selections_ext ls (λ ms. weight (chooses j) (paths (plan_of update r ms))) (λ ms. F (held_of_round r ms)) (λ m d. ap (λ p. weight (chooses j) (paths p)) (plan_marked update m r ls)))
      (≈-trans (moved F (λ xs. weight_den (chooses j) (plan_by update (donors_of r ls) (lifts_of r ls) xs)))
      (rw (← S_round f low high, ← new_at r ls j) ((round_shares update x (donors_of r ls) (lifts_of r ls) (round_fits f low high some)).shares j (rw (length_lifts r ls) l))))

  kept_moved : kept way ls r ≈ round_kept update (donors_of r ls) (lifts_of r ls)
  unfolding kept round_kept
  kept_moved =
      let F : List Initial → Fraction = λ xs. weight (λ s. is_held xs s.place) (paths (plan_by update (donors_of r ls) (lifts_of r ls) xs)) in
      rw (selections_ext ls (λ ms. weight (λ s. (lift_in_round r ms s.place).held) (paths (plan_of update r ms))) (λ ms. F (held_of_round r ms))
      (λ m d.
      weight_ext (λ s. flags ls f m d r s.place) (paths (plan_of update r (marked m ls)))
      ∙ ap (λ p. weight (λ s. is_held (held_of_round r (marked m ls)) s.place) (paths p)) (plan_marked update m r ls)))
      (moved F (λ xs. weight_den (λ s. is_held xs s.place) (plan_by update (donors_of r ls) (lifts_of r ls) xs)))

  one_donor : (t : ℕ) → donors r ls ≡ t ∷ [] → donors_of r ls ≡ One (sum_of Old t ls)
  unfolding donors_of
  one_donor t e = rw e

  fair_best : (t : ℕ) → donors r ls ≡ t ∷ [] → U 1 (lifts_of r ls) ≡ sum_of Old t ls
      → Best (weights (donors_of r ls) (lifts_of r ls)) (D (donors_of r ls) (lifts_of r ls) * sum_of New r ls) (kept way ls r)
  fair_best t e u =
      let o = one_donor t e in
      let m : kept way ls r ≈ round_kept update (One (sum_of Old t ls)) (lifts_of r ls) = rw o at kept_moved in
      rw (o, ← S_round f low high) (best-≈ (≈-sym m) (round_keeps update x y (sum_of Old t ls) (lifts_of r ls) (rw o at (round_fits f low high some)) u))

-- where a list has a number above 0, it has a place
at_inside : (ns : List ℕ) (i : ℕ) → 0 < get_or ns i 0 → i < length ns
at_inside [] i h = absurd (omega arith)
at_inside (n ∷ ns) zero h = omega arith
at_inside (n ∷ ns) (suc i) h = omega (arith, at_inside ns i h)

-- a new round in use is a round, and has lifts
in_use_lem : (ls : List Lift) (r : ℕ) → Memᴰ r (in_use New ls) → (1 ≤ r) × (r ≤ most_rounds) × (0 < lift_count New r ls)
in_use_lem ls r d =
    let q = filter_in (λ r. ltb 0 (lift_count New r ls)) 1 most_rounds r d in
    (q.1, omega (arith, q.2), ltb-true 0 (lift_count New r ls) q.0)

pub runs : RunsTheorem
runs way ls f r d m d' p n words start out k j e i er ev =
    carries way (sheet_of (marked m ls)) (back ls f m d') words start out e i
    (rw (in_use_marked m New ls) (at_inside (in_use New ls) i (rw er (omega (arith, (in_use_lem ls r d).0))))) (rw (in_use_marked m New ls) er) p n ev

pub fair : FairTheorem
fair update x y ls f =
    record {
      rounds = λ r d.
          let q = in_use_lem ls r d in
          record {
            shares = fair_shares update x y f q.0 q.1 q.2;
            runs = runs (by_update update) ls f r d;
            best = fair_best update x y f q.0 q.1 q.2;
          };
      fits = λ m i. marked_fits ls f m i (crowded_marked m ls ∙ f.last);
      whole = whole ls f;
    }
