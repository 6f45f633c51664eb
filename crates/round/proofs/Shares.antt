-- The shares of a round by any exact update: by total probability over the preliminary lift, which comes with its old weight (Preliminaries) and is updated, or a
-- lift is drawn fresh.
use Prim.Native.Nat.{ℕ, ◌*◌, ◌<◌}
use mathlib.Core.Path.{◌≡◌, refl, sym, ap, ◌∙◌}
use mathlib.Core.Bool.{true, false}
use mathlib.Core.List.{List, map}
use native.Mathlib.Nat.{mul-pos}
use native.Mathlib.Omega.{arith}
use lib.ListN.{length, length-map}
use lib.Dec.{eqb}
use Rattle.std.proofs.lemmas.List.{get_or-map}
use Rattle.probability.specs.Fraction.{◌//◌, ◌⊕◌, ◌⊗◌, ◌≈◌, sum}
use Rattle.probability.specs.Plan.{Every, Drawable, paths, weight, mass}
use Rattle.probability.specs.Branch.{Branch, absent, present, join, update_or, TakenBelow, taken_mass, presence}
use Rattle.probability.proofs.Sums.{over_ext}
use Rattle.probability.proofs.Fractions.{pos_left, ≈-refl, ≈-trans}
use Rattle.probability.proofs.Masses.{weighed, mass_den, mass_hits, every_map, every_after}
use Rattle.probability.proofs.Dichotomy.{prelim, branch_shares}
use Rattle.round.specs.Round.{lift_at, S, D, old_weight, new_weight, weights, weight_at, WellPosed}
use Rattle.round.specs.Choice.{selection, Update, draw_place, fresh, single, preliminary_by, preliminary, plan_by}
use Rattle.round.specs.Share.{mean_over_donors, mean_over_held, chooses, taken_weight, SameSum, Exact, round_share, Shares, SharesTheorem}
use Rattle.round.specs.declared.Donors.{Donors}
use Rattle.round.specs.declared.Donors.TheVariants.{None}
use Rattle.round.specs.declared.Lift.{Lift}
use Rattle.round.specs.declared.Weight.{Weight}
use Rattle.round.proofs.WeightSums.{cross_measure, old_cross, old_sum, new_sum}
use Rattle.round.proofs.Preliminaries.{Knows, by_donors, knows}

-- ---- the round's weights by place

pub weight_at_lem : (ds : Donors) (ls : List Lift) (i : ℕ) → i < length ls
    → weight_at (weights ds ls) i ≡ record { old = old_weight ds ls (lift_at ls i); new = new_weight ds ls (lift_at ls i) }
unfolding weights
weight_at_lem ds ls i l = get_or-map _ ls i (record { old = 0; donor = 0; new = 0 }) _ l

pub length_weights : (ds : Donors) (ls : List Lift) → length (weights ds ls) ≡ length ls
unfolding weights
length_weights ds ls = length-map ls _

-- both weights have the same sum
pub same_sum : (ds : Donors) (ls : List Lift) → 0 < D ds ls * S ls → SameSum (weights ds ls) (D ds ls * S ls)
same_sum ds ls p = record { positive = p; olds = old_sum ds ls; news = new_sum ds ls }

-- ---- a fresh draw

pub every_fresh : (ls : List Lift) → 0 < S ls → Drawable (fresh ls)
unfolding Every draw_place
every_fresh ls p = (p, λ _ _. tt)

mass_fresh : (ls : List Lift) (j : ℕ) → j < length ls → 0 < S ls → mass (chooses j) (fresh ls) ≈ (lift_at ls j).new // S ls
unfolding draw_place S
mass_fresh ls j l p =
    rw (get_or-map (λ x. x.new) ls j (record { old = 0; donor = 0; new = 0 }) 0 l) at
    (mass_hits (chooses j) (map (λ x. x.new) ls) (λ i. selection i false) j (rw (length-map ls (λ x. x.new)) l) p (λ i. refl))

-- ---- a round with a donor

module _ (update : Update) (x : Exact update) (ds : Donors) (ls : List Lift) (q : 0 < S ls) (k : Knows ds ls) where
  abbrev ws : List Weight
  ws = weights ds ls

  abbrev N : ℕ
  N = D ds ls * S ls

  positive : 0 < N
  positive = mul-pos k.known.divisor q

  pub every_update : (i : ℕ) → i < length ls → Drawable (update ws i)
  every_update i l = x.drawable (same_sum ds ls positive) i (rw (length_weights ds ls) l)

  pub every_branch : (s : Branch) → TakenBelow (length ls) s → Drawable (update_or (update ws) (fresh ls) s)
  unfolding update_or
  every_branch absent f = every_fresh ls q
  every_branch (present p) f = every_after (λ i. i < length ls) (λ _. Unit {0}) p (update ws) f every_update

  -- old weights in, new weights out
  update_sum : (j : ℕ) → j < length ls
      → sum (length ls) (λ i. (cross_measure ds (lift_at ls i) * S ls) // N ⊗ mass (chooses j) (update ws i)) ≈ ((lift_at ls j).new * D ds ls) // N
  unfolding new_weight
  update_sum j l =
      rw (over_ext ◌⊕◌ (0 // 1) (length ls) {f = λ i. (cross_measure ds (lift_at ls i) * S ls) // N ⊗ mass (chooses j) (update ws i)} {g = λ i. (weight_at ws i).old // N ⊗ mass (chooses j) (update ws i)}
      (λ i v. ap (λ o. o // N ⊗ mass (chooses j) (update ws i)) (sym (ap (λ w. w.old) (weight_at_lem ds ls i v) ∙ old_cross ds ls (lift_at ls i)))))
      (rw (length_weights ds ls, weight_at_lem ds ls j l) at (x.exact (same_sum ds ls positive) j (rw (length_weights ds ls) l)))

  round_shares : (j : ℕ) → j < length ls → round_share update ds ls j ≈ (lift_at ls j).new // S ls
  unfolding round_share plan_by
  round_shares j l =
      let t = chooses j in
      ≈-trans (k.known.averages.same _ (λ xs. mass t (update_or (update ws) (fresh ls) (preliminary ds ls xs))) (λ xs f. (weighed t _ (every_branch (preliminary ds ls xs) f)).agree))
      (branch_shares t (update ws) (fresh ls) (length ls) (λ i v. mass_den (λ _. Unit {0}) t (update ws i) (every_update i v)) (mass_den (λ _. Unit {0}) t (fresh ls) (every_fresh ls q))
      k.known (lift_at ls j).new (S ls) q (update_sum j l) (mass_fresh ls j l q))

  round_whole : mean_over_held ds ls (λ xs. weight (λ _. true) (paths (plan_by update ds ls xs))) ≈ 1 // 1
  unfolding plan_by
  round_whole =
      ≈-trans (k.known.averages.same _ (λ _. 1 // 1) (λ xs f. (weighed (λ _. true) _ (every_branch (preliminary ds ls xs) f)).whole)) k.known.averages.whole

  taken_mass_lem : (i : ℕ) (s : Branch) → TakenBelow (length ls) s → taken_weight i s ≈ taken_mass i s
  unfolding taken_mass
  taken_mass_lem i absent f = ≈-refl (omega arith)
  taken_mass_lem i (present p) f = (weighed (λ a. eqb a i) p (every_map {P = λ i. i < length ls} {Q = λ _. Unit {0}} (λ _ _. tt) p f)).agree

  all_shares : Shares update ds ls
  all_shares =
      let known = k.known in
      record {
        shares = round_shares;
        some = λ _. let e = known.some in pos_left (mean_over_held ds ls (λ xs. presence (preliminary ds ls xs) // 1)).num k.Z (rw e.cross (mul-pos k.some e.left));
        preliminaries = λ _ i l. rw (old_cross ds ls (lift_at ls i))
            (≈-trans (known.averages.same _ (λ xs. taken_mass i (preliminary ds ls xs)) (λ xs f. taken_mass_lem i (preliminary ds ls xs) f)) (prelim known q i l));
        whole = round_whole;
      }

-- ---- every round

none_shares : (update : Update) (ls : List Lift) → 0 < S ls → Shares update None ls
unfolding round_share plan_by preliminary_by single join update_or mean_over_donors D
none_shares update ls q = record {
  shares = λ j l. ≈-trans (weighed (chooses j) (fresh ls) (every_fresh ls q)).agree (mass_fresh ls j l q);
  some = λ p. absurd (omega arith);
  preliminaries = λ p. absurd (omega arith);
  whole = (weighed (λ _. true) (fresh ls) (every_fresh ls q)).whole;
}

pub shares : SharesTheorem
shares update x ds ls =
    by_donors (λ ds. WellPosed ds ls → Shares update ds ls) (λ f. none_shares update ls f.positive)
    (λ ds p f. all_shares update x ds ls f.positive (knows ds ls p f.donate)) ds
