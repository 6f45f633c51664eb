-- The output, from the lifts chosen as the code gathers them.
use Rattle.std.specs.Prelude.{ℕ, suc, ◌^◌, ◌≤◌, ◌<◌, Option, None, Some, IfSome, List, [], ◌∷◌, ◌++◌, length, get_or}
use Rattle.reply.specs.Reply.{onto}
use Rattle.selection.specs.Choice.{pair}
use Rattle.selection.specs.declared.Pick.{Pick}

-- the pairs of the lifts chosen in the rounds from r up
unfoldable pub pairs_from : ℕ → List (Option Pick) → List ℕ
pairs_from r [] = []
pairs_from r (None ∷ picks) = pairs_from (suc r) picks
pairs_from r (Some p ∷ picks) = pair r p.number p.outcome ++ pairs_from (suc r) picks

-- the pairs of all rounds
abbrev pub pairs : List (Option Pick) → List ℕ
pairs picks = pairs_from 0 picks

-- the output with the pairs, and behind them what it had
abbrev pub with_pairs : List (Option Pick) → List ℕ → List ℕ
with_pairs picks out = onto (pairs picks) out

-- a lift chosen whose number and outcome fit a pair
pub record PairFits (p : Pick) : Type 0 where
  pub number : p.number < 2 ^ 28
  pub outcome : p.outcome ≤ 3

-- the pairs fit an output of `room` words, and each lift chosen fits a pair
pub record PairsFit (picks : List (Option Pick)) (room : ℕ) : Type 0 where
  pub few : length (pairs picks) ≤ room
  pub each : (r : ℕ) → IfSome (get_or picks r None) PairFits
