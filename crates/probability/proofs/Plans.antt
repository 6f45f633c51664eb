-- Two plans of which neither looks at the other have independent results, and plans that are the same have the same paths.
use Prim.Native.Nat.{ℕ, ◌<◌}
use mathlib.Core.Path.{◌≡◌, refl, ap, fun_ext, ◌∙◌}
use mathlib.Core.Bool.{Bool, true, false, ◌&&◌}
use mathlib.Core.List.{[], ◌∷◌, ◌++◌, map}
use native.Mathlib.Omega.{arith}
use Rattle.probability.specs.Sum.{indicator}
use Rattle.probability.specs.Fraction.{Fraction, ◌//◌, ◌⊗◌, ◌≈◌}
use Rattle.probability.specs.Plan.{Plan, done, draw, bind, both, SamePlan, Every, Drawable, extend_path, paths, mass, mean, pass_both, IndependentPlans, SamePlanTheorem}
use Rattle.probability.proofs.Sums.{over_ext}
use Rattle.probability.proofs.Fractions.{≈-sym, ≈-trans, ⊗-≈}
use Rattle.probability.proofs.Averages.{independent, plan_averages}
use Rattle.probability.proofs.Masses.{weighed, mass_after, every_after, every_map}

-- ---- neither looks at the other

and_times : (a b : Bool) → indicator (a && b) // 1 ≡ indicator a // 1 ⊗ indicator b // 1
and_times true true = refl
and_times true false = refl
and_times false true = refl
and_times false false = refl

-- whatever c keeps of both results: where v of it says that both pass, its mass is the product
pub mass_both : {A B C : Type 0} (t : A → Bool) (u : B → Bool) (v : C → Bool) (c : A → B → C) → ((a : A) (b : B) → v (c a b) ≡ (t a && u b))
    → (p : Plan A) (q : Plan B) → Drawable p → Drawable q → mass v (bind p (λ a. bind q (λ b. done (c a b)))) ≈ mass t p ⊗ mass u q
unfolding mass mean
mass_both t u v c e p q d f =
    let inner : ◌≡◌ {A = _ → Fraction} (λ a. mass v (bind q (λ b. done (c a b)))) (λ a. mean (λ b. indicator (t a) // 1 ⊗ indicator (u b) // 1) q)
    = fun_ext (λ a. mass_after v q (λ b. done (c a b)) ∙ ap (λ g. mean g q) (fun_ext (λ b. ap (λ x. indicator x // 1) (e a b) ∙ and_times (t a) (u b)))) in
    rw (mass_after v p (λ a. bind q (λ b. done (c a b))), inner)
    (independent (plan_averages (λ _. Unit {0}) p d) (plan_averages (λ _. Unit {0}) q f) (λ a. indicator (t a) // 1) (λ b. indicator (u b) // 1) (λ _ _. omega arith) (λ _ _. omega arith))

pub every_both : {A B : Type 0} (P : A → Type 0) (Q : B → Type 0) (p : Plan A) (q : Plan B) → Every P p → Every Q q → Every (λ c. P c.0 × Q c.1) (both p q)
unfolding both Every
every_both P Q p q d f = every_after P _ p _ d (λ a x. every_after Q _ q _ f (λ b y. (x, y)))

pub drawable_both : {A B : Type 0} (p : Plan A) (q : Plan B) → Drawable p → Drawable q → Drawable (both p q)
drawable_both p q d f = every_map (λ _ _. tt) (both p q) (every_both _ _ p q d f)

pub both_mass : {A B : Type 0} (t : A → Bool) (u : B → Bool) (p : Plan A) (q : Plan B) → Drawable p → Drawable q → mass (pass_both t u) (both p q) ≈ mass t p ⊗ mass u q
unfolding both
both_mass t u p q d f = mass_both t u (pass_both t u) (λ a b. (a, b)) (λ a b. refl) p q d f

pub independent_plans : {A B : Type 0} (t : A → Bool) (u : B → Bool) (p : Plan A) (q : Plan B) → Drawable p → Drawable q → IndependentPlans t u p q
independent_plans t u p q d f =
    let m = both_mass t u p q d f in
    record {
      masses = m;
      weights = ≈-trans (weighed (pass_both t u) (both p q) (drawable_both p q d f)).agree (≈-trans m (≈-sym (⊗-≈ (weighed t p d).agree (weighed u q f).agree)));
    }

-- ---- the same plan

same_refl : {A : Type 0} (p : Plan A) → SamePlan p p
unfolding SamePlan
same_refl (done a) = refl
same_refl (draw b f) = (refl, λ v l. same_refl (f v))

same_draw : {A : Type 0} (b : ℕ) (f g : ℕ → Plan A) → ((v : ℕ) → v < b → SamePlan (f v) (g v)) → SamePlan (draw b f) (draw b g)
unfolding SamePlan
same_draw b f g h = (refl, h)

same_paths : {A : Type 0} (p q : Plan A) → SamePlan p q → paths p ≡ paths q
unfolding SamePlan paths
same_paths (done a) (done b) s = ap (λ x. record { values = []; bounds = 1; result = x } ∷ []) s
same_paths (done a) (draw c g) s = absurd s
same_paths (draw b f) (done a) s = absurd s
same_paths (draw b f) (draw c g) s = rw (← s.0) (over_ext ◌++◌ [] b (λ v l. ap (map (extend_path b v)) (same_paths (f v) (g v) (s.1 v l))))

pub same_plan_theorem : SamePlanTheorem
same_plan_theorem = record { itself = same_refl; below = same_draw; path = same_paths }
