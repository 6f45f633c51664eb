-- Plans: trees of draws, their paths, and the mass of the paths whose result passes a test.
use Rattle.std.specs.Prelude.{ℕ, zero, suc, ◌*◌, ◌<◌, ◌≡◌, Bool, true, ◌&&◌, List, [], ◌∷◌, ◌++◌, map}
use Rattle.probability.specs.Sum.{over, indicator}
use Rattle.probability.specs.Fraction.{Fraction, ◌//◌, ◌⊗◌, ◌≈◌, ◌≲◌, sum, sum_over}

-- a result, or a draw of a number below a bound, all values equally likely, with a plan for each value
pub data Plan (A : Type 0) : Type 0 where
  done : A → Plan A
  draw : (bound : ℕ) → (ℕ → Plan A) → Plan A

-- one plan after another: the second is chosen by the result of the first
unfoldable pub bind : {A B : Type 0} → Plan A → (A → Plan B) → Plan B
bind (done a) k = k a
bind (draw b f) k = draw b (λ v. bind (f v) k)

-- two plans, neither looking at the other
unfoldable pub both : {A B : Type 0} → Plan A → Plan B → Plan (A × B)
both p q = bind p (λ a. bind q (λ b. done (a, b)))

-- the same bounds, and the same for every value below them
unfoldable pub SamePlan : {A : Type 0} → Plan A → Plan A → Type 0
SamePlan (done a) (done b) = a ≡ b
SamePlan (done a) (draw c g) = ⊥
SamePlan (draw b f) (done a) = ⊥
SamePlan (draw b f) (draw c g) = (b ≡ c) × ((v : ℕ) → v < b → SamePlan (f v) (g v))

-- every draw has a value, and every result satisfies P
unfoldable pub Every : {A : Type 0} → (A → Type 0) → Plan A → Type 0
Every P (done a) = P a
Every P (draw b k) = (0 < b) × ((v : ℕ) → v < b → Every P (k v))

-- every draw has a value
abbrev pub Drawable : {A : Type 0} → Plan A → Type 0
Drawable p = Every (λ _. Unit {0}) p

-- no path makes more than n draws
unfoldable pub DrawsAtMost : {A : Type 0} → ℕ → Plan A → Type 0
DrawsAtMost n (done a) = Unit {0}
DrawsAtMost zero (draw b k) = ⊥
DrawsAtMost (suc n) (draw b k) = (v : ℕ) → v < b → DrawsAtMost n (k v)

-- a path through a plan (the document's "way"): the values drawn, the product of the bounds met, the result
pub record Path (A : Type 0) : Type 0 where
  pub values : List ℕ
  pub bounds : ℕ
  pub result : A

-- a path with a first draw of v below b put before it
abbrev pub extend_path : {A : Type 0} → ℕ → ℕ → Path A → Path A
extend_path b v p = record { values = v ∷ p.values; bounds = b * p.bounds; result = p.result }

-- all paths through a plan
unfoldable pub paths : {A : Type 0} → Plan A → List (Path A)
paths (done a) = record { values = []; bounds = 1; result = a } ∷ []
paths (draw b k) = over ◌++◌ [] b (λ v. map (extend_path b v) (paths (k v)))

-- the total weight of the paths whose result passes the test: a path weighs 1 over the product of the bounds that it met
unfoldable pub weight : {A : Type 0} → (A → Bool) → List (Path A) → Fraction
weight t ps = sum_over ps (λ p. indicator (t p.result) // p.bounds)

-- the mean of f over the results of a plan, by recursion: all values of a draw have equal mass
unfoldable pub mean : {A : Type 0} → (A → Fraction) → Plan A → Fraction
mean f (done a) = f a
mean f (draw b k) = 1 // b ⊗ sum b (λ v. mean f (k v))

-- the mass of the results that pass the test: the mean of the indicator of the test
unfoldable pub mass : {A : Type 0} → (A → Bool) → Plan A → Fraction
mass t p = mean (λ a. indicator (t a) // 1) p

-- what is proved of every plan whose draws all have a value, and of every test (proofs/Masses.antt)
pub record Weighed {A : Type 0} (t : A → Bool) (p : Plan A) : Type 0 where
  -- the list of paths and the recursion agree
  pub agree : weight t (paths p) ≈ mass t p
  -- all paths weigh 1 together
  pub whole : weight (λ _. true) (paths p) ≈ 1 // 1
  -- and no part of them weighs more
  pub part : weight t (paths p) ≲ 1 // 1

-- both results pass their tests
abbrev pub pass_both : {A B : Type 0} → (A → Bool) → (B → Bool) → A × B → Bool
pass_both t u c = t c.0 && u c.1

-- what is proved of two plans whose draws all have a value, and of a test for each: their results are independent (proofs/Plans.antt)
pub record IndependentPlans {A B : Type 0} (t : A → Bool) (u : B → Bool) (p : Plan A) (q : Plan B) : Type 0 where
  -- masses multiply
  pub masses : mass (pass_both t u) (both p q) ≈ mass t p ⊗ mass u q
  -- and so do the weights of the paths
  pub weights : weight (pass_both t u) (paths (both p q)) ≈ weight t (paths p) ⊗ weight u (paths q)

-- what is proved of plans that are the same (proofs/Plans.antt)
pub record SamePlanTheorem : Type 1 where
  -- every plan is the same as itself
  pub itself : {A : Type 0} (p : Plan A) → SamePlan p p
  -- what a draw goes on with at its bound and above makes no difference
  pub below : {A : Type 0} (b : ℕ) (f g : ℕ → Plan A) → ((v : ℕ) → v < b → SamePlan (f v) (g v)) → SamePlan (draw b f) (draw b g)
  -- they have the same paths
  pub path : {A : Type 0} (p q : Plan A) → SamePlan p q → paths p ≡ paths q
