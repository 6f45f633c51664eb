-- Laws of the mass of a plan. Each goes by induction over the plan: a draw's subplans share its mass evenly.
use Prim.Native.Nat.{ℕ, ◌+◌, ◌*◌, ◌<◌}
use mathlib.Core.Path.{◌≡◌, refl, ap, ap₂, ◌∙◌}
use mathlib.Core.Bool.{Bool, true, false, cond}
use mathlib.Core.List.{List, [], ◌++◌, map}
use native.Mathlib.Nat.{mul-pos, mul-one}
use native.Mathlib.Omega.{arith}
use lib.ListN.{length, get_or}
use lib.Dec.{eqb, ltb}
use borrow.Author.Tests.{lt-ltb, le-ltb}
use Rattle.probability.specs.Sum.{over, Σ, total, indicator}
use Rattle.probability.specs.Interval.{pick}
use Rattle.probability.specs.Fraction.{Fraction, ◌//◌, ◌⊕◌, ◌⊗◌, ◌≈◌, ◌≲◌, sum, sum_over}
use Rattle.probability.specs.Plan.{Plan, done, draw, bind, Every, Drawable, Path, extend_path, paths, weight, mass, mean, Weighed}
use Rattle.probability.proofs.Sums.{over_related, over_ext, Σ-const}
use Rattle.probability.proofs.Intervals.{intervals}
use Rattle.probability.proofs.Fractions.{≈-refl, ≈-sym, ≈-trans, ≈-≲, ⊕-≈, ⊗-≈, ⊗-distrib, sum_over-++, sum_over_map, sum_over_part, sum-≈, sum_cut, sum_const, sum_part, sum_same, sum-≲, sum_one}
use Rattle.probability.proofs.Averages.{av_den, av_mix, plan_averages, mean_bind}

-- ---- the list of paths and the recursion

weight_over : {A : Type 0} (t : A → Bool) (n : ℕ) (f : ℕ → List (Path A)) → weight t (over ◌++◌ [] n f) ≡ sum n (λ v. weight t (f v))
unfolding weight sum_over
weight_over t n f =
    over_related (λ xs q. weight t xs ≡ q) ◌++◌ [] ◌⊕◌ (0 // 1) refl (λ a x b y p q. sum_over-++ a x _ ∙ ap₂ ◌⊕◌ p q) n (λ i l. refl)

weight_drew : {A : Type 0} (t : A → Bool) (b v : ℕ) (ps : List (Path A)) → 0 < b → 0 < (weight t ps).den
    → weight t (map (extend_path b v) ps) ≈ 1 // b ⊗ weight t ps
unfolding weight
weight_drew t b v ps l h = rw (sum_over_map (extend_path b v) ps _) (sum_over_part (1 // b) l _ _ (λ p. ap (λ n. n // (b * p.bounds)) (omega arith)) ps h)

agree : {A : Type 0} (t : A → Bool) (p : Plan A) → Drawable p → weight t (paths p) ≈ mass t p
unfolding weight sum_over paths mass mean Every
agree t (done a) d = record { cross = omega arith; left = omega arith; right = omega arith }
agree t (draw b k) d =
    let r : (v : ℕ) → v < b → weight t (paths (k v)) ≈ mass t (k v) = λ v l. agree t (k v) (d.1 v l) in
    rw (weight_over t b (λ v. map (extend_path b v) (paths (k v))))
    (≈-trans (sum-≈ b (λ v l. ≈-trans (weight_drew t b v (paths (k v)) d.0 (r v l).left) (⊗-≈ (≈-refl {q = 1 // b} d.0) (r v l))))
    (sum_part b (1 // b) (λ v. mass t (k v)) d.0 (λ v l. (r v l).right)))

-- ---- all of it, and a part of it

-- b values of equal weight
pub mass_even : (b : ℕ) {f : ℕ → Fraction} {a : ℕ → ℕ} {S : ℕ} → 0 < b → 0 < S → ((i : ℕ) → i < b → f i ≈ a i // S) → 1 // b ⊗ sum b f ≈ Σ b a // (b * S)
mass_even b p q h =
    let k = sum_same b q h in
    record { cross = omega (arith, ap (λ t. t * b) k.cross); left = mul-pos p k.left; right = mul-pos p q }

pub mass_whole : {A : Type 0} (p : Plan A) → Drawable p → mass (λ _. true) p ≈ 1 // 1
unfolding mass
mass_whole p d = (plan_averages _ p d).whole

indicator_le : {A : Type 0} (t : A → Bool) (a : A) → indicator (t a) // 1 ≲ 1 // 1
indicator_le t a = go (t a)
  where
    go : (b : Bool) → indicator b // 1 ≲ 1 // 1
    go true = record { cross = omega arith; left = omega arith; right = omega arith }
    go false = record { cross = omega arith; left = omega arith; right = omega arith }

pub mass_part : {A : Type 0} (t : A → Bool) (p : Plan A) → Drawable p → mass t p ≲ 1 // 1
unfolding mass mean Every
mass_part t (done a) d = indicator_le t a
mass_part t (draw b k) d =
    let r = rw (Σ-const b 1) at (sum-≲ b {a = λ v. 1} {S = 1} (omega arith) (λ v l. mass_part t (k v) (d.1 v l))) in
    record { cross = omega (arith, r.cross); left = mul-pos d.0 r.left; right = omega arith }

pub weighed : {A : Type 0} (t : A → Bool) (p : Plan A) → Drawable p → Weighed t p
weighed t p d = record {
  agree = agree t p d;
  whole = ≈-trans (agree (λ _. true) p d) (mass_whole p d);
  part = ≈-≲ (agree t p d) (mass_part t p d);
}

-- ---- one plan after another

pub mass_after : {A B : Type 0} (t : B → Bool) (p : Plan A) (k : A → Plan B) → mass t (bind p k) ≡ mean (λ a. mass t (k a)) p
unfolding mass
mass_after t p k = mean_bind _ p k

pub every_after : {A B : Type 0} (P : A → Type 0) (Q : B → Type 0) (p : Plan A) (k : A → Plan B) → Every P p → ((a : A) → P a → Every Q (k a)) → Every Q (bind p k)
unfolding Every bind
every_after P Q (done a) k d h = h a d
every_after P Q (draw b f) k d h = (d.0, λ v l. every_after P Q (f v) k (d.1 v l) h)

-- ---- the mean by the classes of the results

pub every_map : {A : Type 0} {P Q : A → Type 0} → ((a : A) → P a → Q a) → (p : Plan A) → Every P p → Every Q p
unfolding Every
every_map h (done a) d = h a d
every_map h (draw b k) d = (d.0, λ v l. every_map h (k v) (d.1 v l))

pub mass_den : {A : Type 0} (P : A → Type 0) (t : A → Bool) (p : Plan A) → Every P p → 0 < (mass t p).den
unfolding mass
mass_den P t p d = av_den (plan_averages P p d) _ (λ _ _. omega arith)

-- total probability: where f depends on the class of a result alone, its mean is the sum over the classes
pub mean_classes : {A : Type 0} (class : A → ℕ) (f : A → Fraction) (g : ℕ → Fraction) (m : ℕ) (p : Plan A) → ((i : ℕ) → i < m → 0 < (g i).den)
    → Every (λ a. (class a < m) × (f a ≈ g (class a))) p → mean f p ≈ sum m (λ i. mass (λ a. eqb (class a) i) p ⊗ g i)
unfolding mass
mean_classes class f g m p x d =
    let av = plan_averages _ p d in
    ≈-trans (av.same f _ (λ a h. ≈-trans h.1 (≈-sym (sum_one m (class a) g h.0 x)))) (av_mix av m (λ a i. indicator (eqb (class a) i) // 1) g (λ _ _ _ _. omega arith) x)

-- ---- one draw

pub every_cond : {A : Type 0} (P : A → Type 0) (b : Bool) (p q : Plan A) → Every P p → Every P q → Every P (cond b p q)
every_cond P true p q f g = f
every_cond P false p q f g = g

-- a draw below L + H: a plan for the lower values, another for the rest
pub mass_cut : {A : Type 0} (t : A → Bool) (L H : ℕ) (p q : Plan A) → 0 < L + H → 0 < (mass t p).den → 0 < (mass t q).den
    → mass t (draw (L + H) (λ v. cond (ltb v L) p q)) ≈ mass t p ⊗ L // (L + H) ⊕ H // (L + H) ⊗ mass t q
unfolding mass mean
mass_cut t L H p q w c d =
    let W : ℕ = L + H in
    let e : sum W (λ v. mass t (cond (ltb v L) p q)) ≈ L // 1 ⊗ mass t p ⊕ H // 1 ⊗ mass t q
    = rw (
      sum_cut L H (λ v. mass t (cond (ltb v L) p q)),
      over_ext ◌⊕◌ (0 // 1) L {f = λ v. mass t (cond (ltb v L) p q)} {g = λ v. mass t p} (λ v l. rw (lt-ltb v L l)),
      over_ext ◌⊕◌ (0 // 1) H {f = λ v. mass t (cond (ltb (L + v) L) p q)} {g = λ v. mass t q} (λ v l. rw (le-ltb (L + v) L (omega arith))),
    )
    (⊕-≈ (sum_const L (mass t p) c) (sum_const H (mass t q) d)) in
    ≈-trans (⊗-≈ (≈-refl {q = 1 // W} w) e)
    (≈-trans (≈-sym (⊗-distrib (1 // W) (L // 1 ⊗ mass t p) (H // 1 ⊗ mass t q) w (omega (arith, c)) (omega (arith, d))))
    (⊕-≈ (record { cross = omega arith; left = mul-pos w (omega (arith, c)); right = mul-pos c w })
    (record { cross = omega arith; left = mul-pos w (omega (arith, d)); right = mul-pos w d })))

-- a draw whose value only picks an interval, where only index j passes the test: its interval's part
pub mass_hits : {A : Type 0} (t : A → Bool) (ws : List ℕ) (k : ℕ → A) (j : ℕ) → j < length ws → 0 < total ws → ((i : ℕ) → t (k i) ≡ eqb i j)
    → mass t (draw (total ws) (λ q. done (k (pick ws q)))) ≈ get_or ws j 0 // total ws
unfolding mass mean
mass_hits t ws k j l p h =
    rw (mul-one (total ws), over_ext ◌+◌ 0 (total ws) (λ q _. ap indicator (h (pick ws q))), (intervals ws).hits j l) at
    (mass_even (total ws) {a = λ q. indicator (t (k (pick ws q)))} {S = 1} p (omega arith) (λ q _. ≈-refl (omega arith)))
