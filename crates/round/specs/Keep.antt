-- How often a held lift is kept: no coupling with the same proportions keeps more, and one keeps as much ("What demand 3 weighs" of
-- document 01).
use Rattle.std.specs.Prelude.{ℕ, ◌*◌, ◌<◌, ◌≡◌, List, map, length}
use Rattle.probability.specs.Sum.{Σ, total}
use Rattle.probability.specs.Fraction.{Fraction, ◌//◌, ◌⊗◌, ◌≈◌, ◌≲◌}
use Rattle.probability.specs.Plan.{paths, weight}
use Rattle.round.specs.Round.{S, U, D, weights, weight_at, WellPosed}
use Rattle.round.specs.Choice.{Update, plan_by, is_held}
use Rattle.round.specs.Share.{mean_over_held, smaller, Exact, Staying}
use Rattle.round.specs.declared.Donors.{Donors}
use Rattle.round.specs.declared.Donors.TheVariants.{One}
use Rattle.round.specs.declared.Lift.{Lift}
use Rattle.round.specs.declared.Weight.{Weight}

-- "what the ways weigh whose lift is held in their own marking"
unfoldable pub round_kept : Update → Donors → List Lift → Fraction
round_kept update ds ls = mean_over_held ds ls (λ xs. weight (λ s. is_held xs s.place) (paths (plan_by update ds ls xs)))

-- a coupling of the old and the new weights: "A rule is any grid of whole tickets, 0 or more in each place, held lift by chosen lift,
-- whose rows sum to the old weights times one whole number and whose columns sum to the new weights times the same."
pub record Coupling (ws : List Weight) (times : ℕ) (grid : ℕ → ℕ → ℕ) : Type 0 where
  pub rows : (i : ℕ) → i < length ws → Σ (length ws) (λ j. grid i j) ≡ (weight_at ws i).old * times
  pub columns : (j : ℕ) → j < length ws → Σ (length ws) (λ i. grid i j) ≡ (weight_at ws j).new * times

-- "all its tickets"
abbrev pub tickets : ℕ → (ℕ → ℕ → ℕ) → ℕ
tickets n grid = Σ n (λ i. Σ n (λ j. grid i j))

-- "It keeps the tickets where both lifts are one."
abbrev pub kept_tickets : ℕ → (ℕ → ℕ → ℕ) → ℕ
kept_tickets n grid = Σ n (λ i. grid i i)

-- a coupling of the weights that has tickets and keeps exactly this part of them
pub record Attained (ws : List Weight) (part : Fraction) : Type 0 where
  pub times : ℕ
  pub grid : ℕ → ℕ → ℕ
  pub coupling : Coupling ws times grid
  pub some : 0 < tickets (length ws) grid
  pub kept : kept_tickets (length ws) grid // 1 ≈ tickets (length ws) grid // 1 ⊗ part

-- of its tickets no coupling of the weights keeps a larger part than this, and one keeps it; old and new weights each sum to N
pub record Best (ws : List Weight) (N : ℕ) (part : Fraction) : Type 0 where
  -- "every rule keeps at most as many tickets as all its tickets times" this part
  pub most : (times : ℕ) (grid : ℕ → ℕ → ℕ) → Coupling ws times grid
      → kept_tickets (length ws) grid // 1 ≲ tickets (length ws) grid // 1 ⊗ part
  -- and a coupling that keeps as much exists: the bound is reached
  pub reached : Attained ws part
  -- the part is the sum of the smaller of both weights over N
  pub exactly : part ≈ total (map smaller ws) // N

-- proved: of what the paths keep by every exact and staying update, in every well-posed round "with one donor and U = T"; N is D × S
abbrev pub KeepsTheorem : Type 0
KeepsTheorem =
    (update : Update) → Exact update → Staying update → (T : ℕ) (ls : List Lift) → WellPosed (One T) ls → U 1 ls ≡ T
    → Best (weights (One T) ls) (D (One T) ls * S ls) (round_kept update (One T) ls)
