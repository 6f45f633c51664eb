-- The branches of a dichotomy: joining two of them, what follows the choice, and the law that joined branches keep the odds of their weights.
use Rattle.std.specs.Prelude.{ℕ, ◌+◌, ◌*◌, ◌≤◌, ◌<◌, ◌≡◌, cond, ltb, eqb}
use Rattle.probability.specs.Fraction.{Fraction, ◌//◌, ◌≈◌}
use Rattle.probability.specs.Plan.{Plan, draw, bind, Every, mass}
use Rattle.probability.specs.Average.{Averages}

-- a branch of a dichotomy: no unit of it is held here, or a plan takes one of those that are
pub data Branch : Type 0 where
  absent : Branch
  present : Plan ℕ → Branch

-- "Whenever both branches of the dichotomy contain selections, choose one" (document 002): a draw below a bound, the lower values for the first branch
unfoldable pub join : (bound lower : ℕ) → Branch → Branch → Branch
join b l absent t = t
join b l (present p) absent = present p
join b l (present p) (present q) = present (draw b (λ v. cond (ltb v l) p q))

-- an update of the unit that is taken, or another plan where there is none
unfoldable pub update_or : {A : Type 0} → (ℕ → Plan A) → Plan A → Branch → Plan A
update_or update fresh absent = fresh
update_or update fresh (present p) = bind p update

-- every draw has a value, and what is taken satisfies R
abbrev pub EveryTaken : (ℕ → Type 0) → Branch → Type 0
EveryTaken R absent = Unit {0}
EveryTaken R (present p) = Every R p

-- what is taken stands at a place below n
abbrev pub TakenBelow : ℕ → Branch → Type 0
TakenBelow n s = EveryTaken (λ i. i < n) s

-- the mass of place i being taken
unfoldable pub taken_mass : ℕ → Branch → Fraction
taken_mass i absent = 0 // 1
taken_mass i (present p) = mass (λ a. eqb a i) p

-- 1 where a unit is held here, else 0
unfoldable pub presence : Branch → ℕ
presence absent = 0
presence (present p) = 1

-- 1 where no unit is held here, else 0
unfoldable pub absence : Branch → ℕ
absence absent = 1
absence (present p) = 0

-- over M the branch is present with X / Z, absent with Y / Z, and place i is taken with X × a i over Z × D
pub record Known {A : Type 0} (P : A → Type 0) (M : (A → Fraction) → Fraction) (s : A → Branch) (n X Y Z D : ℕ) (a : ℕ → ℕ) : Type 0 where
  pub averages : Averages P M
  pub placed : (x : A) → P x → TakenBelow n (s x)
  pub whole : X + Y ≡ Z
  pub positive : 0 < Z
  pub divisor : 0 < D
  pub place : (i : ℕ) → i < n → M (λ x. taken_mass i (s x)) ≈ (X * a i) // (Z * D)
  pub some : M (λ x. presence (s x) // 1) ≈ X // Z
  pub none : M (λ x. absence (s x) // 1) ≈ Y // Z

-- the law of the dichotomy (proofs/Dichotomy.antt)
pub record DichotomyTheorem : Type 1 where
  -- two independent branches, joined, are a branch with c times the weights of the first and d times those of the second, if the L lower of W values balance them:
  -- `balance`, multiplied out, is what formula (5) of document 002 solves for L / W
  pub joined : {A B : Type 0} {P : A → Type 0} {Q : B → Type 0} {M : (A → Fraction) → Fraction} {N : (B → Fraction) → Fraction} {s : A → Branch} {t : B → Branch}
      {n X₁ Y₁ Z₁ D₁ X₂ Y₂ Z₂ D₂ : ℕ} {a b : ℕ → ℕ} → Known P M s n X₁ Y₁ Z₁ D₁ a → Known Q N t n X₂ Y₂ Z₂ D₂ b
      → (W L c d X D : ℕ) → 0 < W → L ≤ W → 0 < D → X ≡ X₁ * Z₂ + Y₁ * X₂ → D ≡ c * D₁ + d * D₂
      → (balance : X₁ * (X₂ * L + Y₂ * W) * D ≡ X * (c * D₁) * W)
      → Known (λ (z : A × B). P z.0 × Q z.1) (λ f. M (λ x. N (λ y. f (x, y)))) (λ z. join W L (s z.0) (t z.1)) n X (Y₁ * Y₂) (Z₁ * Z₂) D (λ i. c * a i + d * b i)
