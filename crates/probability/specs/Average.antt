-- Averages: what a mean over the results of a plan and a mean over initial selections have in common.
use Rattle.std.specs.Prelude.{◌<◌}
use Rattle.probability.specs.Fraction.{Fraction, ◌//◌, ◌⊕◌, ◌⊗◌, ◌≈◌}

-- M averages over what satisfies P: it is linear, depends on values there alone, and the average of 1 is 1
pub record Averages {A : Type 0} (P : A → Type 0) (M : (A → Fraction) → Fraction) : Type 0 where
  pub same : (f g : A → Fraction) → ((a : A) → P a → f a ≈ g a) → M f ≈ M g
  pub add : (f g : A → Fraction) → ((a : A) → P a → 0 < (f a).den) → ((a : A) → P a → 0 < (g a).den) → M (λ a. f a ⊕ g a) ≈ M f ⊕ M g
  pub times : (q : Fraction) (f : A → Fraction) → 0 < q.den → ((a : A) → P a → 0 < (f a).den) → M (λ a. q ⊗ f a) ≈ q ⊗ M f
  pub whole : M (λ _. 1 // 1) ≈ 1 // 1
