-- The preliminary lift as the code answers it.
use Rattle.std.specs.Prelude.{ℕ, ◌≤◌, List, Option, Some, None, option_map}
use Rattle.probability.specs.Branch.{Branch, absent, present}
use Rattle.draw.specs.Draw.{largest}
use Rattle.draw.specs.Run.{run, answer}

-- the answer with the preliminary lift, if there is one, and the next position, from the random words ws, read from a position on
abbrev pub proposed : List ℕ → ℕ → Branch → Option (Option ℕ × ℕ)
proposed ws at absent = Some (None, at)
proposed ws at (present p) = option_map (λ (x : ℕ × ℕ). (Some x.0, x.1)) (answer (run largest ws at p))

-- if both donors' lifts are held here, there is a bound to draw below
abbrev pub Contested : (bound : ℕ) → Option ℕ → Option ℕ → Type 0
Contested bound (Some i) (Some j) = 1 ≤ bound
Contested bound (Some i) None = Unit {0}
Contested bound None y = Unit {0}
