-- Keeping: a coupling keeps no more than the smaller weights, and Keyfitz's update is one that keeps them all, as each lift does.
use Prim.Native.Nat.{ℕ, ◌+◌, ◌*◌, ◌-◌, ◌≤◌, ◌<◌, min}
use mathlib.Core.Path.{◌≡◌, refl, sym, ap, ◌∙◌, fun_ext}
use mathlib.Core.Bool.{Bool, true, false, ◌||◌, or-false}
use mathlib.Core.List.{List, [], ◌∷◌, map}
use native.Mathlib.Nat.{mul-pos, mul-le-mul_right, min-eq_left, add-zero}
use native.Mathlib.Omega.{arith}
use lib.ListN.{length}
use lib.Dec.{leb, eqb}
use borrow.Author.Tests.{leb-true, leb-false}
use Rattle.probability.specs.Sum.{total}
use Rattle.probability.specs.Fraction.{Fraction, ◌//◌, ◌⊗◌, ◌≈◌, sum}
use Rattle.probability.specs.Initial.{here, elsewhere}
use Rattle.probability.specs.Plan.{bind, paths, weight, mass}
use Rattle.probability.specs.Branch.{join, update_or}
use Rattle.probability.proofs.Tests.{eqb_comm}
use Rattle.probability.proofs.Sums.{over_ext, Σ-mono, Σ-mul, Σ-map, Σ-term}
use Rattle.probability.proofs.Fractions.{≈-refl, ≈-sym, ≈-trans, ≲-≈, ≈-num, ⊕-same, ⊗-≈, sum-≈}
use Rattle.probability.proofs.Masses.{weighed}
use Rattle.round.specs.Round.{lift_at, S, measure_from, U, D, old_weight, weights, weight_at, G, WellPosed}
use Rattle.round.specs.Choice.{Update, fresh, single, preliminary_by, plan_by, is_held}
use Rattle.round.specs.Share.{mean_over_initial, mean_over_donors, chooses, smaller, SameSum, Exact, Staying}
use Rattle.round.specs.Keep.{round_kept, Coupling, tickets, kept_tickets, Attained, Best, KeepsTheorem}
use Rattle.round.specs.declared.Selection.{Selection}
use Rattle.round.specs.declared.Donors.TheVariants.{One}
use Rattle.round.specs.declared.Lift.{Lift}
use Rattle.round.specs.declared.Weight.{Weight}
use Rattle.round.proofs.WeightSums.{losses}
use Rattle.round.proofs.Keyfitz.{none, passes, unit_of, arrives, leaves, own}
use Rattle.round.proofs.Shares.{weight_at_lem, length_weights, same_sum, every_fresh}

-- ---- couplings

min_times : (a b x y : ℕ) → x ≤ a * y → x ≤ b * y → x ≤ min a b * y
min_times a b x y h k = go (leb a b) refl
  where
    go : (t : Bool) → leb a b ≡ t → x ≤ min a b * y
    go true e = let l = leb-true a b e in rw (min-eq_left l) h
    go false e = let l = leb-false a b e in let m : min a b ≡ b = omega arith in rw m k

module _ (ws : List Weight) (times : ℕ) (grid : ℕ → ℕ → ℕ) (c : Coupling ws times grid) where
  -- all tickets are the old weights' sum, times the whole number
  all_tickets : tickets (length ws) grid ≡ total (map (λ w. w.old) ws) * times
  all_tickets =
      over_ext ◌+◌ 0 (length ws) c.rows ∙ Σ-mul (length ws) (λ i. (weight_at ws i).old) times ∙ ap (λ t. t * times) (Σ-map (λ w. w.old) none ws)

  -- the kept ones are at most the smaller weights' sum, times the whole number
  at_most : kept_tickets (length ws) grid ≤ total (map smaller ws) * times
  at_most =
      let term : (i : ℕ) → i < length ws → grid i i ≤ smaller (weight_at ws i) * times
      = λ i l. min_times (weight_at ws i).old (weight_at ws i).new (grid i i) times
      (rw (c.rows i l) at (Σ-term (length ws) i (λ j. grid i j) l)) (rw (c.columns i l) at (Σ-term (length ws) i (λ j. grid j i) l)) in
      rw (Σ-mul (length ws) (λ i. smaller (weight_at ws i)) times ∙ ap (λ t. t * times) (Σ-map smaller none ws)) at (Σ-mono (length ws) term)

-- ---- the best, of any two lists of weights with equal sums

module _ {ws : List Weight} {N : ℕ} (q : SameSum ws N) where
  -- Keyfitz's update is a coupling: from each unit its old weight goes, and to each its new weight comes
  coupled : (H : ℕ) → (0 < G ws → G ws ≡ H) → Coupling ws H (λ i j. passes ws H j i)
  coupled H h = let b = losses ws (q.olds ∙ sym q.news) in record { rows = leaves ws H h b; columns = arrives ws H h b }

  -- it keeps the smaller weights
  attained : Attained ws (total (map smaller ws) // N)
  attained =
      let p = q.positive in let (H, r, h) = unit_of (G ws) in let c = coupled H h in let g : ℕ → ℕ → ℕ = λ i j. passes ws H j i in
      let t : tickets (length ws) g ≡ N * H = all_tickets ws H g c ∙ ap (λ n. n * H) q.olds in
      record {
        times = H;
        grid = g;
        coupling = c;
        some = rw t (mul-pos p r);
        kept = rw (t, own ws H) (record { cross = omega arith; left = omega arith; right = omega arith });
      }

  best : Best ws N (total (map smaller ws) // N)
  best =
      let p = q.positive in
      record {
        most = λ times grid c.
            let m = mul-le-mul_right N (at_most ws times grid c) in
            rw (all_tickets ws times grid c, q.olds) (record { cross = omega arith; left = omega arith; right = omega arith });
        reached = attained;
        exactly = ≈-refl p;
      }

-- what equals the best part is it too
pub best-≈ : {ws : List Weight} {N : ℕ} {q r : Fraction} → q ≈ r → Best ws N q → Best ws N r
best-≈ e b =
    record {
      most = λ times grid c. ≲-≈ (b.most times grid c) (⊗-≈ (≈-refl (omega arith)) e);
      reached = let a = b.reached in
          record {
            times = a.times;
            grid = a.grid;
            coupling = a.coupling;
            some = a.some;
            kept = ≈-trans a.kept (⊗-≈ (≈-refl (omega arith)) e);
          };
      exactly = ≈-trans (≈-sym e) b.exactly;
    }

-- ---- what is kept

module _ (update : Update) (x : Exact update) (y : Staying update) (T : ℕ) (ls : List Lift) (f : WellPosed (One T) ls) (whole : U 1 ls ≡ T) where
  abbrev ws : List Weight
  ws = weights (One T) ls

  abbrev N : ℕ
  N = D (One T) ls * S ls

  same : SameSum ws N
  unfolding D
  same = same_sum (One T) ls (mul-pos f.donate.0.some f.positive)

  keeps_here : (i : ℕ) → i < length ls
      → weight (λ s. is_held (here i ∷ []) s.place) (paths (plan_by update (One T) ls (here i ∷ []))) ≈ mass (chooses i) (update ws i)
  unfolding plan_by preliminary_by single join update_or bind
  keeps_here i l =
      rw (fun_ext {f = λ (s : Selection). eqb i s.place || false} {g = chooses i} (λ s. or-false (eqb i s.place) ∙ eqb_comm i s.place))
      (weighed (chooses i) (update ws i) (x.drawable same i (rw (length_weights (One T) ls) l))).agree

  -- the old measure over T is the old weight over D × S
  old_part : (i : ℕ) → i < length ls → measure_from 1 (lift_at ls i) // T ≈ (weight_at ws i).old // N
  unfolding D old_weight
  old_part i l = rw (weight_at_lem (One T) ls i l) (record { cross = rw whole (omega arith); left = rw (← whole) f.donate.0.some; right = same.positive })

  -- no held lift is elsewhere
  elsewhere_part : (T - U 1 ls) // T ⊗ weight (λ s. is_held (elsewhere ∷ []) s.place) (paths (plan_by update (One T) ls (elsewhere ∷ []))) ≈ 0 // N
  unfolding plan_by preliminary_by single join update_or
  elsewhere_part =
      let d = (weighed (λ s. is_held (elsewhere ∷ []) s.place) (fresh ls) (every_fresh ls f.positive)).agree.left in
      let e : T - U 1 ls ≡ 0 = omega arith in let p : 0 < T = rw (← whole) f.donate.0.some in
      rw e (record { cross = omega arith; left = mul-pos p d; right = same.positive })

  kept_sum : round_kept update (One T) ls ≈ total (map smaller ws) // N
  unfolding round_kept mean_over_donors mean_over_initial
  kept_sum =
      let here_part : sum (length ls) (λ i. (weight_at ws i).old // N ⊗ mass (chooses i) (update ws i)) ≈ total (map smaller ws) // N
      = rw (length_weights (One T) ls) at (y.stays same) in
      ≈-num (add-zero (total (map smaller ws)))
      (⊕-same (≈-trans (sum-≈ (length ls) (λ i l. ⊗-≈ (old_part i l) (keeps_here i l))) here_part) elsewhere_part)

pub keeps : KeepsTheorem
keeps update x y T ls f whole = best-≈ (≈-sym (kept_sum update x y T ls f whole)) (best (same update x y T ls f whole))
