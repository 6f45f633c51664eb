-- Cumulative intervals: weights laid end to end from 0, in the order of the list (the document's "stretches").
use Rattle.std.specs.Prelude.{ℕ, suc, ◌-◌, ◌≤◌, ◌<◌, ◌≡◌, cond, List, [], ◌∷◌, length, get_or, take, ltb, eqb}
use Rattle.probability.specs.Sum.{total, count}

-- the index in whose interval the position q falls
unfoldable pub pick : List ℕ → ℕ → ℕ
pick [] q = 0
pick (w ∷ ws) q = cond (ltb q w) 0 (suc (pick ws (q - w)))

-- q falls in the interval of index i: the weights before i reach at most to q, and those up to i reach beyond it
pub record Falls (ws : List ℕ) (q i : ℕ) : Type 0 where
  pub start : total (take i ws) ≤ q
  pub end : q < total (take (suc i) ws)

-- what is proved of every list of weights (proofs/Intervals.antt)
pub record Intervals (ws : List ℕ) : Type 0 where
  -- every position below the total falls in the interval that `pick` names
  pub falls : (q : ℕ) → q < total ws → Falls ws q (pick ws q)
  -- and in no other
  pub unique : (q i : ℕ) → Falls ws q i → pick ws q ≡ i
  -- of the positions below the total, each index is hit by exactly as many as its weight
  pub hits : (i : ℕ) → i < length ws → count (total ws) (λ q. eqb (pick ws q) i) ≡ get_or ws i 0
