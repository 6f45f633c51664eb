-- Cumulative intervals: the positions below the total are cut at the first weight, and the rest is a shorter list.
use Prim.Native.Nat.{ℕ, zero, suc, ◌+◌, ◌*◌, ◌-◌, ◌≤◌, ◌<◌}
use mathlib.Core.Path.{◌≡◌, refl, sym, ap, ap₂, ◌∙◌}
use mathlib.Core.Bool.{Bool, true, false, cond}
use mathlib.Core.List.{List, [], ◌∷◌, ◌++◌}
use native.Mathlib.Nat.{add-sub_cancel_left, zero-add, suc-add, sub-zero}
use native.Mathlib.Omega.{arith}
use lib.ListN.{length, get_or}
use lib.Dec.{ltb, eqb}
use borrow.Author.Tests.{lt-ltb, le-ltb, ltb-true, ltb-false}
use Rattle.probability.specs.Sum.{over, Σ, total, indicator}
use Rattle.probability.specs.Interval.{pick, Falls, Intervals}
use Rattle.probability.proofs.Sums.{over_ext, Σ-const, Σ-cut, Σ-one}

pub pick_here : (w : ℕ) (ws : List ℕ) (q : ℕ) → q < w → pick (w ∷ ws) q ≡ 0
unfolding pick
pick_here w ws q h = rw (lt-ltb q w h)

pub pick_beyond : (w : ℕ) (ws : List ℕ) (q : ℕ) → w ≤ q → pick (w ∷ ws) q ≡ suc (pick ws (q - w))
unfolding pick
pick_beyond w ws q h = rw (le-ltb q w h)

-- where the first weights reach beyond q, only they count
pub pick_within : (ws us : List ℕ) (q : ℕ) → q < total ws → pick (ws ++ us) q ≡ pick ws q
unfolding total
pick_within [] us q h = absurd (omega arith)
pick_within (w ∷ ws) us q h = go (ltb q w) refl (pick_within ws us (q - w))
  where
    go : (b : Bool) → ltb q w ≡ b → (q - w < total ws → pick (ws ++ us) (q - w) ≡ pick ws (q - w)) → pick (w ∷ ws ++ us) q ≡ pick (w ∷ ws) q
    go true e r = let l = ltb-true q w e in pick_here w (ws ++ us) q l ∙ sym (pick_here w ws q l)
    go false e r = let l = ltb-false q w e in pick_beyond w (ws ++ us) q l ∙ ap suc (r (omega arith)) ∙ sym (pick_beyond w ws q l)

-- where they do not, what they leave of q falls among the others
pub pick_past : (ws us : List ℕ) (q : ℕ) → total ws ≤ q → pick (ws ++ us) q ≡ length ws + pick us (q - total ws)
unfolding total
pick_past [] us q h = rw (zero-add, sub-zero) refl
pick_past (w ∷ ws) us q h =
    let same : q - w - total ws ≡ q - (w + total ws) = omega arith in
    rw (pick_beyond w (ws ++ us) q (omega arith), pick_past ws us (q - w) (omega arith), same, suc-add) refl

falls : (ws : List ℕ) (q : ℕ) → q < total ws → Falls ws q (pick ws q)
unfolding total
falls [] q h = absurd (omega arith)
falls (w ∷ ws) q h = go (ltb q w) refl (falls ws (q - w))
  where
    go : (b : Bool) → ltb q w ≡ b → (q - w < total ws → Falls ws (q - w) (pick ws (q - w))) → Falls (w ∷ ws) q (pick (w ∷ ws) q)
    go true e r = let l = ltb-true q w e in rw (pick_here w ws q l) (record { start = omega arith; end = omega arith })
    go false e r =
        let l = ltb-false q w e in let f = r (omega arith) in
        rw (pick_beyond w ws q l) (record { start = omega (arith, f.start); end = omega (arith, f.end) })

unique : (ws : List ℕ) (q i : ℕ) → Falls ws q i → pick ws q ≡ i
unfolding total
unique [] q zero f = absurd (omega (arith, f.end))
unique [] q (suc i) f = absurd (omega (arith, f.end))
unique (w ∷ ws) q zero f = pick_here w ws q (omega (arith, f.end))
unique (w ∷ ws) q (suc i) f =
    pick_beyond w ws q (omega (arith, f.start)) ∙ ap suc (unique ws (q - w) i (record { start = omega (arith, f.start); end = omega (arith, f.start, f.end) }))

-- the positions below the total, sorted by the interval in which they fall: as many in each as its weight
pub Σ-pick : (ws : List ℕ) (f : ℕ → ℕ) → Σ (total ws) (λ q. f (pick ws q)) ≡ Σ (length ws) (λ i. get_or ws i 0 * f i)
unfolding over total
Σ-pick [] f = refl
Σ-pick (w ∷ ws) f =
    Σ-cut w (total ws) (λ q. f (pick (w ∷ ws) q))
    ∙ ap₂ ◌+◌ (over_ext ◌+◌ 0 w (λ q l. ap f (pick_here w ws q l)) ∙ Σ-const w (f 0))
    (over_ext ◌+◌ 0 (total ws) {f = λ q. f (pick (w ∷ ws) (w + q))} {g = λ q. f (suc (pick ws q))} (λ q l. rw (pick_beyond w ws (w + q) (omega arith), add-sub_cancel_left)) ∙ Σ-pick ws (λ i. f (suc i)))

pub pick_lt : (ws : List ℕ) (q : ℕ) → q < total ws → pick ws q < length ws
unfolding total pick
pick_lt [] q h = omega arith
pick_lt (w ∷ ws) q h = go (ltb q w) refl (pick_lt ws (q - w))
  where
    go : (b : Bool) → ltb q w ≡ b → (q - w < total ws → pick ws (q - w) < length ws) → cond b 0 (suc (pick ws (q - w))) < suc (length ws)
    go true e r = omega arith
    go false e r = let l = ltb-false q w e in omega (arith, r (omega arith))

-- the interval in which a position falls is not empty
pub pick_some : (ws : List ℕ) (q : ℕ) → q < total ws → 0 < get_or ws (pick ws q) 0
unfolding total pick
pick_some [] q h = absurd (omega arith)
pick_some (w ∷ ws) q h = go (ltb q w) refl (pick_some ws (q - w))
  where
    go : (b : Bool) → ltb q w ≡ b → (q - w < total ws → 0 < get_or ws (pick ws (q - w)) 0) → 0 < get_or (w ∷ ws) (cond b 0 (suc (pick ws (q - w)))) 0
    go true e r = omega (arith, ltb-true q w e)
    go false e r = r (omega (arith, ltb-false q w e))

pub intervals : (ws : List ℕ) → Intervals ws
intervals ws = record {
  falls = falls ws;
  unique = unique ws;
  hits = λ i l. Σ-pick ws (λ j. indicator (eqb j i)) ∙ Σ-one (length ws) i (λ j. get_or ws j 0) l;
}
