-- Sums over selections and weights of paths: term by term, and with denominators above 0.
use Prim.Native.Nat.{ℕ, zero, suc, ◌<◌}
use mathlib.Core.Path.{◌≡◌, ap}
use mathlib.Core.Bool.{Bool}
use mathlib.Core.List.{List, [], ◌∷◌, ◌++◌, map, Memᴰ}
use native.Mathlib.Nat.{mul-pos}
use native.Mathlib.Omega.{arith}
use Rattle.probability.specs.Sum.{over, indicator}
use Rattle.probability.specs.Fraction.{Fraction, ◌//◌, ◌⊗◌, sum_over}
use Rattle.probability.specs.Plan.{Plan, done, draw, Path, extend_path, paths, weight}
use Rattle.probability.proofs.Fractions.{sum_over_ext}
use Rattle.sheet.specs.Sheet.{Lift}
use Rattle.tally.specs.Rounds.{in_use}
use Rattle.sheet.specs.Lift.{Old}
use Rattle.selection.specs.Initial.{selections, marked, initial_weight, mean_over_selections}

-- the mean of f and of g, where they agree on every marked list
pub selections_ext : (ls : List Lift) (f g : List Lift → Fraction) → ((m : List Lift) → Memᴰ m (selections ls) → f (marked m ls) ≡ g (marked m ls))
    → mean_over_selections ls f ≡ mean_over_selections ls g
unfolding mean_over_selections
selections_ext ls f g h = sum_over_ext (selections ls) (λ m d. ap (λ x. initial_weight (in_use Old ls) m ls ⊗ x) (h m d))

-- ---- paths

pub weight_ext : {A : Type 0} {t u : A → Bool} → ((a : A) → t a ≡ u a) → (ps : List (Path A)) → weight t ps ≡ weight u ps
unfolding weight
weight_ext h ps = sum_over_ext ps (λ p _. ap (λ x. indicator x // p.bounds) (h p.result))

-- the bounds of every path are above 0
abbrev Positive : {A : Type 0} → List (Path A) → Type 0
Positive [] = Unit {0}
Positive (p ∷ ps) = (0 < p.bounds) × Positive ps

positive_append : {A : Type 0} (ps qs : List (Path A)) → Positive ps → Positive qs → Positive (ps ++ qs)
positive_append [] qs h k = k
positive_append (p ∷ ps) qs h k = (h.0, positive_append ps qs h.1 k)

positive_drew : {A : Type 0} (b v : ℕ) → 0 < b → (ps : List (Path A)) → Positive ps → Positive (map (extend_path b v) ps)
positive_drew b v l [] h = tt
positive_drew b v l (p ∷ ps) h = (mul-pos l h.0, positive_drew b v l ps h.1)

positive_over : {A : Type 0} (n : ℕ) (f : ℕ → List (Path A)) → ((v : ℕ) → v < n → Positive (f v)) → Positive (over ◌++◌ [] n f)
unfolding over
positive_over zero f h = tt
positive_over (suc n) f h = positive_append (f 0) _ (h 0 (omega arith)) (positive_over n (λ i. f (suc i)) (λ v l. h (suc v) (omega arith)))

positive_paths : {A : Type 0} (p : Plan A) → Positive (paths p)
unfolding paths
positive_paths (done a) = (omega arith, tt)
positive_paths (draw b k) = positive_over b _ (λ v l. positive_drew b v (omega arith) (paths (k v)) (positive_paths (k v)))

weight_positive : {A : Type 0} (t : A → Bool) (ps : List (Path A)) → Positive ps → 0 < (weight t ps).den
unfolding weight sum_over
weight_positive t [] h = omega arith
weight_positive t (p ∷ ps) h = mul-pos h.0 (weight_positive t ps h.1)

-- what the paths of a plan weigh has a denominator above 0
pub weight_den : {A : Type 0} (t : A → Bool) (p : Plan A) → 0 < (weight t (paths p)).den
weight_den t p = weight_positive t (paths p) (positive_paths p)
