-- "One draw" of document 01. m is the largest word, b the bound W: the definitions hold for words of any width.
use Rattle.std.specs.Prelude.{ℕ, ◌+◌, ◌-◌, ◌*◌, ◌/◌, ◌%◌, ◌^◌, ◌≤◌, ◌<◌, ◌≡◌, Bool, false, cond, List, [], ◌∷◌, drop, ltb, eqb, Option, Some, None}
use Rattle.probability.specs.Sum.{count}

-- "Chance words are 64-bit numbers"
abbrev pub largest : ℕ
largest = 2 ^ 64 - 1

-- "K is the whole part of (2^64 − 1) / W."
abbrev pub K : ℕ → ℕ → ℕ
K m b = m / b

-- "Words of K × W or more are passed over. The first smaller word w gives w mod W." The first word of the list stands at position i.
-- The value and the position behind its word; none where the words ended.
unfoldable pub draw_from : ℕ → ℕ → ℕ → List ℕ → Option (ℕ × ℕ)
draw_from m b i [] = None
draw_from m b i (w ∷ ws) = cond (ltb w (K m b * b)) (Some (w % b, i + 1)) (draw_from m b (i + 1) ws)

-- "read from a start position on"
abbrev pub draw_at : ℕ → List ℕ → ℕ → ℕ → Option (ℕ × ℕ)
draw_at m ws at b = draw_from m b at (drop at ws)

-- what a reader found, if anything, with the position that it reached
abbrev pub reached : {A : Type 0} → Option A → ℕ → Option (A × ℕ)
reached (Some x) next = Some (x, next)
reached None next = None

-- whether a draw gave the value v
abbrev pub gave : ℕ → Option (ℕ × ℕ) → Bool
gave v (Some (x, next)) = eqb x v
gave v None = false

-- "So each value comes from exactly K words": of the words 0 to m; and K is not 0 for a bound from 1 to m
pub record ExactlyK (m b : ℕ) : Type 0 where
  pub each : (v : ℕ) → v < b → count (m + 1) (λ w. gave v (draw_at m (w ∷ []) 0 b)) ≡ K m b
  pub some : 1 ≤ b → b ≤ m → 0 < K m b
