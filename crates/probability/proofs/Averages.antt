-- Averages: what follows of every one, that independent ones multiply, and that plans and weights average.
use Prim.Native.Nat.{ℕ, zero, suc, ◌<◌}
use mathlib.Core.Path.{◌≡◌, refl, ap, fun_ext}
use native.Mathlib.Nat.{mul-pos}
use native.Mathlib.Omega.{arith}
use Rattle.probability.specs.Sum.{over}
use Rattle.probability.specs.Fraction.{Fraction, ◌//◌, ◌⊕◌, ◌⊗◌, ◌≈◌, sum}
use Rattle.probability.specs.Plan.{Plan, done, draw, bind, Every, mean}
use Rattle.probability.specs.Average.{Averages}
use Rattle.probability.proofs.Fractions.{pos_right, ≈-refl, ≈-sym, ≈-trans, ⊕-≈, ⊗-≈, ⊗-comm, ⊗-distrib, sum-≈, sum_den, sum_add, sum_part, sum_const}

module _ {A : Type 0} {P : A → Type 0} {M : (A → Fraction) → Fraction} (av : Averages P M) where
  pub av_den : (f : A → Fraction) → ((a : A) → P a → 0 < (f a).den) → 0 < (M f).den
  av_den f h = (av.same f f (λ a p. ≈-refl (h a p))).left

  pub av_right : (f : A → Fraction) (q : Fraction) → 0 < q.den → ((a : A) → P a → 0 < (f a).den) → M (λ a. f a ⊗ q) ≈ M f ⊗ q
  av_right f q d h =
      ≈-trans (av.same (λ a. f a ⊗ q) (λ a. q ⊗ f a) (λ a p. rw (⊗-comm (f a) q) (≈-refl (mul-pos d (h a p)))))
      (rw (⊗-comm (M f) q) (av.times q f d h))

  pub av_const : (q : Fraction) → 0 < q.den → M (λ _. q) ≈ q
  av_const q d =
      ≈-trans (av.same (λ _. q) (λ _. q ⊗ 1 // 1) (λ a p. record { cross = omega arith; left = d; right = omega (arith, d) }))
      (≈-trans (av.times q (λ _. 1 // 1) d (λ a p. omega arith))
      (≈-trans (⊗-≈ (≈-refl d) av.whole) (record { cross = omega arith; left = omega (arith, d); right = d })))

  pub av_sum : (m : ℕ) (f : A → ℕ → Fraction) → ((a : A) → P a → (i : ℕ) → i < m → 0 < (f a i).den) → M (λ a. sum m (f a)) ≈ sum m (λ i. M (λ a. f a i))
  unfolding over
  av_sum zero f h = av_const (0 // 1) (omega arith)
  av_sum (suc m) f h =
      ≈-trans (av.add (λ a. f a 0) (λ a. sum m (λ i. f a (suc i))) (λ a p. h a p 0 (omega arith))
      (λ a p. sum_den m _ (λ i l. h a p (suc i) (omega arith))))
      (⊕-≈ (≈-refl (av_den (λ a. f a 0) (λ a p. h a p 0 (omega arith)))) (av_sum m (λ a i. f a (suc i)) (λ a p i l. h a p (suc i) (omega arith))))

  -- total probability: a mixture of mixtures, sorted by the inner index
  pub av_mix : (m : ℕ) (f : A → ℕ → Fraction) (g : ℕ → Fraction) → ((a : A) → P a → (i : ℕ) → i < m → 0 < (f a i).den) → ((i : ℕ) → i < m → 0 < (g i).den)
      → M (λ a. sum m (λ i. f a i ⊗ g i)) ≈ sum m (λ i. M (λ a. f a i) ⊗ g i)
  av_mix m f g u v =
      ≈-trans (av_sum m (λ a i. f a i ⊗ g i) (λ a p i l. mul-pos (u a p i l) (v i l)))
      (sum-≈ m (λ i l. av_right (λ a. f a i) (g i) (v i l) (λ a p. u a p i l)))

-- ---- two independent averages

module _ {A B : Type 0} {P : A → Type 0} {Q : B → Type 0} {M : (A → Fraction) → Fraction} {N : (B → Fraction) → Fraction} (av : Averages P M) (aw : Averages Q N) where
  -- the average of a product is the product of the averages
  pub independent : (f : A → Fraction) (g : B → Fraction) → ((a : A) → P a → 0 < (f a).den) → ((b : B) → Q b → 0 < (g b).den)
      → M (λ a. N (λ b. f a ⊗ g b)) ≈ M f ⊗ N g
  independent f g u v =
      ≈-trans (av.same (λ a. N (λ b. f a ⊗ g b)) (λ a. f a ⊗ N g) (λ a p. aw.times (f a) g (u a p) v))
      (av_right av f (N g) (av_den aw g v) u)

  abbrev pub Both : A × B → Type 0
  Both c = P c.0 × Q c.1

  -- and both together average over pairs
  pub pairs : Averages Both (λ h. M (λ a. N (λ b. h (a, b))))
  pairs = record {
    same = λ f g h. av.same _ _ (λ a p. aw.same _ _ (λ b q. h (a, b) (p, q)));
    add = λ f g u v. ≈-trans (av.same _ (λ a. N (λ b. f (a, b)) ⊕ N (λ b. g (a, b))) (λ a p. aw.add (λ b. f (a, b)) (λ b. g (a, b)) (λ b q. u (a, b) (p, q)) (λ b q. v (a, b) (p, q))))
        (av.add _ _ (λ a p. av_den aw _ (λ b q. u (a, b) (p, q))) (λ a p. av_den aw _ (λ b q. v (a, b) (p, q))));
    times = λ q f d u. ≈-trans (av.same _ (λ a. q ⊗ N (λ b. f (a, b))) (λ a p. aw.times q (λ b. f (a, b)) d (λ b k. u (a, b) (p, k))))
        (av.times q _ d (λ a p. av_den aw _ (λ b k. u (a, b) (p, k))));
    whole = ≈-trans (av.same _ (λ _. 1 // 1) (λ a p. aw.whole)) av.whole;
  }

-- ---- a plan averages over its results

-- one plan after another
pub mean_bind : {A B : Type 0} (f : B → Fraction) (p : Plan A) (k : A → Plan B) → mean f (bind p k) ≡ mean (λ a. mean f (k a)) p
unfolding bind mean
mean_bind f (done a) k = refl
mean_bind f (draw b g) k = ap (λ h. 1 // b ⊗ sum b h) (fun_ext (λ v. mean_bind f (g v) k))

module _ {A : Type 0} (P : A → Type 0) where
  mean_same : (p : Plan A) → Every P p → (f g : A → Fraction) → ((a : A) → P a → f a ≈ g a) → mean f p ≈ mean g p
  unfolding Every mean
  mean_same (done a) d f g h = h a d
  mean_same (draw b k) d f g h = ⊗-≈ (≈-refl {q = 1 // b} d.0) (sum-≈ b (λ v l. mean_same (k v) (d.1 v l) f g h))

  mean_den : (p : Plan A) → Every P p → (f : A → Fraction) → ((a : A) → P a → 0 < (f a).den) → 0 < (mean f p).den
  mean_den p d f h = (mean_same p d f f (λ a q. ≈-refl (h a q))).left

  mean_add : (p : Plan A) → Every P p → (f g : A → Fraction) → ((a : A) → P a → 0 < (f a).den) → ((a : A) → P a → 0 < (g a).den)
      → mean (λ a. f a ⊕ g a) p ≈ mean f p ⊕ mean g p
  unfolding Every mean
  mean_add (done a) d f g u v = ≈-refl (mul-pos (u a d) (v a d))
  mean_add (draw b k) d f g u v =
      let F : ℕ → Fraction = λ x. mean f (k x) in let H : ℕ → Fraction = λ x. mean g (k x) in
      let e : sum b (λ x. mean (λ a. f a ⊕ g a) (k x)) ≈ sum b F ⊕ sum b H
      = rw (← sum_add b F H) (sum-≈ b (λ x l. mean_add (k x) (d.1 x l) f g u v)) in
      ≈-trans (⊗-≈ (≈-refl {q = 1 // b} d.0) e)
      (≈-sym (⊗-distrib (1 // b) (sum b F) (sum b H) d.0
      (sum_den b F (λ x l. mean_den (k x) (d.1 x l) f u)) (sum_den b H (λ x l. mean_den (k x) (d.1 x l) g v))))

  mean_times : (p : Plan A) → Every P p → (q : Fraction) (f : A → Fraction) → 0 < q.den → ((a : A) → P a → 0 < (f a).den) → mean (λ a. q ⊗ f a) p ≈ q ⊗ mean f p
  unfolding Every mean
  mean_times (done a) d q f c u = ≈-refl (mul-pos c (u a d))
  mean_times (draw b k) d q f c u =
      let F : ℕ → Fraction = λ x. mean f (k x) in
      let r : sum b (λ x. mean (λ a. q ⊗ f a) (k x)) ≈ q ⊗ sum b F
      = ≈-trans (sum-≈ b (λ x l. mean_times (k x) (d.1 x l) q f c u)) (sum_part b q F c (λ x l. mean_den (k x) (d.1 x l) f u)) in
      let s : 0 < (sum b F).den = pos_right q.den _ r.right in
      ≈-trans (⊗-≈ (≈-refl {q = 1 // b} d.0) r) (record { cross = omega arith; left = mul-pos d.0 (mul-pos c s); right = mul-pos c (mul-pos d.0 s) })

  mean_whole : (p : Plan A) → Every P p → mean (λ _. 1 // 1) p ≈ 1 // 1
  unfolding Every mean
  mean_whole (done a) d = ≈-refl (omega arith)
  mean_whole (draw b k) d =
      ≈-trans (⊗-≈ (≈-refl {q = 1 // b} d.0) (≈-trans (sum-≈ b (λ v l. mean_whole (k v) (d.1 v l))) (sum_const b (1 // 1) (omega arith))))
      (record { cross = omega arith; left = omega (arith, d.0); right = omega arith })

  pub plan_averages : (p : Plan A) → Every P p → Averages P (λ f. mean f p)
  plan_averages p d = record { same = mean_same p d; add = mean_add p d; times = mean_times p d; whole = mean_whole p d }

-- an average over the images of what is averaged
pub image : {A B : Type 0} {P : A → Type 0} {M : (A → Fraction) → Fraction} (Q : B → Type 0) (g : A → B) → ((a : A) → P a → Q (g a)) → Averages P M → Averages Q (λ f. M (λ a. f (g a)))
image Q g h av = record {
  same = λ f k e. av.same (λ a. f (g a)) (λ a. k (g a)) (λ a p. e (g a) (h a p));
  add = λ f k u v. av.add (λ a. f (g a)) (λ a. k (g a)) (λ a p. u (g a) (h a p)) (λ a p. v (g a) (h a p));
  times = λ q f d u. av.times q (λ a. f (g a)) d (λ a p. u (g a) (h a p));
  whole = av.whole;
}
