-- Each value comes from exactly K words: below K * b every period of b words gives it once, and from there on no word gives a value.
use Prim.Native.Nat.{ℕ, ◌+◌, ◌-◌, ◌*◌, ◌%◌, ◌≤◌, ◌<◌}
use mathlib.Core.Path.{◌≡◌, ap, ap₂, ◌∙◌}
use mathlib.Core.List.{[], ◌∷◌}
use native.Mathlib.Nat.{div-mul-le_self, le-div_iff_mul-le}
use native.Mathlib.Omega.{arith}
use lib.Arith.{digits_mod}
use lib.Dec.{eqb}
use borrow.Author.Tests.{lt-ltb, le-ltb}
use Rattle.probability.specs.Sum.{Σ, indicator, count}
use Rattle.probability.proofs.Sums.{over_ext, Σ-cut, Σ-const, Σ-periodic, count_one}
use Rattle.draw.specs.Draw.{K, draw_from, draw_at, gave, ExactlyK}

module _ (m b v : ℕ) where
  -- 1 where the word w gives v
  gives : ℕ → ℕ
  gives w = indicator (gave v (draw_at m (w ∷ []) 0 b))

  below_limit : (w : ℕ) → w < K m b * b → gives w ≡ indicator (eqb (w % b) v)
  unfolding gives draw_from
  below_limit w l = rw (lt-ltb _ _ l)

  from_limit : (w : ℕ) → K m b * b ≤ w → gives w ≡ 0
  unfolding gives draw_from
  from_limit w l = rw (le-ltb _ _ l)

  each : v < b → count (m + 1) (λ w. gave v (draw_at m (w ∷ []) 0 b)) ≡ K m b
  unfolding gives
  each h =
      let t : ℕ = K m b * b in let r : ℕ = m + 1 - t in
      let e : m + 1 ≡ t + r = omega (arith, div-mul-le_self m b) in
      ap (λ n. Σ n gives) e ∙ Σ-cut t r gives
      ∙ ap₂ ◌+◌
      (over_ext _ _ t below_limit
      ∙ Σ-periodic b (K m b) (λ w. indicator (eqb (w % b) v)) (λ i. indicator (eqb i v)) (λ q i l. ap (λ x. indicator (eqb x v)) (digits_mod q l))
      ∙ ap (λ n. K m b * n) (count_one b v h))
      (over_ext _ _ r (λ i l. from_limit (t + i) (omega arith)) ∙ Σ-const r 0)
      ∙ omega arith

pub exactly : (m b : ℕ) → ExactlyK m b
exactly m b = record { each = each m b; some = λ p l. (le-div_iff_mul-le p).1 (omega arith) }
