-- Fractions of natural numbers: "Fractions are compared multiplied out, in whole numbers."
use Rattle.std.specs.Prelude.{ℕ, ◌+◌, ◌*◌, ◌≤◌, ◌<◌, ◌≡◌, List, [], ◌∷◌}
use Rattle.probability.specs.Sum.{over}

pub record Fraction : Type 0 where
  pub num : ℕ
  pub den : ℕ

infix 58 ◌//◌
infixl 56 ◌⊗◌
infixl 55 ◌⊕◌
infix 50 ◌≈◌ ◌≲◌
abbrev pub ◌//◌ : ℕ → ℕ → Fraction
n // d = record { num = n; den = d }

abbrev pub ◌⊕◌ : Fraction → Fraction → Fraction
q ⊕ r = (q.num * r.den + r.num * q.den) // (q.den * r.den)

abbrev pub ◌⊗◌ : Fraction → Fraction → Fraction
q ⊗ r = (q.num * r.num) // (q.den * r.den)

-- f 0 ⊕ f 1 ⊕ .. ⊕ f (n - 1)
abbrev pub sum : ℕ → (ℕ → Fraction) → Fraction
sum n f = over ◌⊕◌ (0 // 1) n f

-- the sum of f over the elements of a list
unfoldable pub sum_over : {A : Type 0} → List A → (A → Fraction) → Fraction
sum_over [] f = 0 // 1
sum_over (x ∷ xs) f = f x ⊕ sum_over xs f

-- equality by cross-multiplication; it requires both denominators to be above 0
pub record ◌≈◌ (q r : Fraction) : Type 0 where
  pub cross : q.num * r.den ≡ r.num * q.den
  pub left : 0 < q.den
  pub right : 0 < r.den

-- "at most" by cross-multiplication; it requires both denominators to be above 0
pub record ◌≲◌ (q r : Fraction) : Type 0 where
  pub cross : q.num * r.den ≤ r.num * q.den
  pub left : 0 < q.den
  pub right : 0 < r.den
