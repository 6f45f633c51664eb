-- The mean over the initial selections of one donor: it averages, and the donor alone is a branch, present with U / T and then at place i with m / U.
use Prim.Native.Nat.{ℕ, ◌+◌, ◌*◌, ◌-◌, ◌<◌}
use mathlib.Core.Path.{◌≡◌, ap, ◌∙◌}
use mathlib.Core.List.{List}
use native.Mathlib.Nat.{mul-pos}
use native.Mathlib.Omega.{arith}
use lib.ListN.{length}
use lib.Dec.{eqb}
use Rattle.probability.specs.Sum.{Σ, indicator}
use Rattle.probability.specs.Initial.{Initial, here, elsewhere}
use Rattle.probability.specs.Fraction.{Fraction, ◌//◌, ◌⊕◌, ◌⊗◌, ◌≈◌, sum}
use Rattle.probability.specs.Plan.{Every, mass, mean}
use Rattle.probability.specs.Average.{Averages}
use Rattle.probability.specs.Branch.{TakenBelow, taken_mass, presence, absence, Known}
use Rattle.probability.proofs.Sums.{over_ext, middle, Σ-mul, Σ-map, Σ-one}
use Rattle.probability.proofs.Fractions.{≈-refl, ≈-sym, ≈-trans, ≈-num, ⊕-assoc, ⊕-comm, ⊕-zero, ⊕-≈, ⊕-same, ⊗-≈, ⊗-swap, ⊗-distrib, sum-≈, sum_den, sum_same, sum_add, sum_part}
use Rattle.round.specs.Round.{lift_at, measure_from, U, IsDonor}
use Rattle.round.specs.Choice.{single}
use Rattle.round.specs.Share.{mean_over_initial}
use Rattle.round.specs.Rows.{Inside}
use Rattle.round.specs.declared.Lift.{Lift}
use Rattle.round.proofs.WeightSums.{U_sum}

sent_all : (k : ℕ) (ls : List Lift) (x : ℕ) → Σ (length ls) (λ i. measure_from k (lift_at ls i) * x) ≡ U k ls * x
sent_all k ls x =
    rw (U_sum k ls) (Σ-mul (length ls) (λ i. measure_from k (lift_at ls i)) x ∙ ap (λ u. u * x) (Σ-map (measure_from k) (record { old = 0; donor = 0; new = 0 }) ls))

module _ (k T : ℕ) (ls : List Lift) (s : IsDonor k T ls) where
  positive : 0 < T
  positive = omega (arith, s.some, s.part)

  -- over one denominator
  initial_same : (f : Initial → Fraction) {x : ℕ → ℕ} {y R : ℕ} → 0 < R → ((i : ℕ) → i < length ls → f (here i) ≈ x i // R) → f elsewhere ≈ y // R
      → mean_over_initial k T ls f ≈ (Σ (length ls) (λ i. measure_from k (lift_at ls i) * x i) + (T - U k ls) * y) // (T * R)
  unfolding mean_over_initial
  initial_same f q h e = ⊕-same (sum_same (length ls) (mul-pos positive q) (λ i l. ⊗-≈ (≈-refl positive) (h i l))) (⊗-≈ (≈-refl positive) e)

  -- of what is x at every place of the round, and y elsewhere
  initial_const : (f : Initial → Fraction) (x y : ℕ) → ((i : ℕ) → i < length ls → f (here i) ≈ x // 1) → f elsewhere ≈ y // 1
      → mean_over_initial k T ls f ≈ (U k ls * x + (T - U k ls) * y) // (T * 1)
  initial_const f x y h e = ≈-num (ap (λ u. u + (T - U k ls) * y) (sent_all k ls x)) (initial_same f {x = λ _. x} {y = y} {R = 1} (omega arith) h e)

  pub initial_averages : Averages (Inside (length ls)) (mean_over_initial k T ls)
  unfolding mean_over_initial
  initial_averages =
      let n = length ls in let p = positive in
      let w : ℕ → Fraction = λ i. measure_from k (lift_at ls i) // T in let z : Fraction = (T - U k ls) // T in
      record {
        same = λ f g h. ⊕-≈ (sum-≈ n (λ i l. ⊗-≈ (≈-refl p) (h (here i) l))) (⊗-≈ (≈-refl p) (h elsewhere tt));
        add = λ f g u v.
            rw (← middle ◌⊕◌ (0 // 1) ⊕-assoc ⊕-comm ⊕-zero (sum n (λ i. w i ⊗ f (here i))) (sum n (λ i. w i ⊗ g (here i))) (z ⊗ f elsewhere) (z ⊗ g elsewhere))
            (⊕-≈
            (rw (← sum_add n (λ i. w i ⊗ f (here i)) (λ i. w i ⊗ g (here i)))
            (sum-≈ n (λ i l. ≈-sym (⊗-distrib (w i) (f (here i)) (g (here i)) p (u (here i) l) (v (here i) l)))))
            (≈-sym (⊗-distrib z (f elsewhere) (g elsewhere) p (u elsewhere tt) (v elsewhere tt))));
        times = λ q f d u.
            let den : (i : ℕ) → i < n → 0 < (w i ⊗ f (here i)).den = λ i l. mul-pos p (u (here i) l) in
            ≈-trans
            (⊕-≈
            (rw (over_ext ◌⊕◌ (0 // 1) n {f = λ i. w i ⊗ (q ⊗ f (here i))} {g = λ i. q ⊗ (w i ⊗ f (here i))} (λ i _. ⊗-swap q (w i) (f (here i))))
            (sum_part n q (λ i. w i ⊗ f (here i)) d den))
            (rw (⊗-swap q z (f elsewhere)) (≈-refl (mul-pos d (mul-pos p (u elsewhere tt))))))
            (⊗-distrib q (sum n (λ i. w i ⊗ f (here i))) (z ⊗ f elsewhere) d (sum_den n (λ i. w i ⊗ f (here i)) den) (mul-pos p (u elsewhere tt)));
        whole = ≈-trans (initial_const (λ _. 1 // 1) 1 1 (λ i _. ≈-refl (omega arith)) (≈-refl (omega arith)))
            (record { cross = omega (arith, s.part); left = omega arith; right = omega arith });
      }

  pub known_single : Known (Inside (length ls)) (mean_over_initial k T ls) single (length ls) (U k ls) (T - U k ls) T (U k ls) (λ i. measure_from k (lift_at ls i))
  unfolding single taken_mass presence absence mass mean Every
  known_single =
      let p = positive in
      record {
        averages = initial_averages;
        placed = placed;
        whole = omega (arith, s.part);
        positive = p;
        divisor = s.some;
        place = λ i l. ≈-trans
            (≈-num (ap (λ c. c + (T - U k ls) * 0) (Σ-one (length ls) i (λ a. measure_from k (lift_at ls a)) l))
            (initial_same (λ x. taken_mass i (single x)) {x = λ a. indicator (eqb a i)} {y = 0} {R = 1} (omega arith) (λ a _. ≈-refl (omega arith)) (≈-refl (omega arith))))
            (record { cross = omega arith; left = omega arith; right = mul-pos p s.some });
        some = ≈-trans (initial_const (λ x. presence (single x) // 1) 1 0 (λ i _. ≈-refl (omega arith)) (≈-refl (omega arith)))
            (record { cross = omega arith; left = omega arith; right = p });
        none = ≈-trans (initial_const (λ x. absence (single x) // 1) 0 1 (λ i _. ≈-refl (omega arith)) (≈-refl (omega arith)))
            (record { cross = omega arith; left = omega arith; right = p });
      }
    where
      placed : (x : Initial) → Inside (length ls) x → TakenBelow (length ls) (single x)
      placed elsewhere f = tt
      placed (here i) f = f
