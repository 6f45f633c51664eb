-- Laws of numbers made of bits. Each goes by induction along the bits.
use Prim.Native.Nat.{ℕ, zero, suc, ◌+◌, ◌*◌, ◌/◌, ◌%◌, ◌^◌, ◌<◌, max}
use mathlib.Core.Path.{◌≡◌, refl, ◌∙◌}
use mathlib.Core.Bool.{Bool, true, false, ◌&&◌, ◌||◌}
use native.Mathlib.Nat.{pow-suc}
use native.Mathlib.Omega.{arith}
use lib.Arith.{bin_ind}
use lib.Bits.{bit_or, or_step, or_shr}
use lib.Count.{ones, ones_step}
use lib.Dec.{eqb, ltb}
use borrow.Author.Tests.{eqb-true, ltb-true, eq-eqb, lt-ltb}
use Rattle.probability.specs.Sum.{over, indicator, count}
use Rattle.tally.specs.Tables.{bits}

-- ---- the lowest bit, and the others

pub low : (b : Bool) (x : ℕ) → (indicator b + 2 * x) % 2 ≡ indicator b
low true x = omega arith
low false x = omega arith

pub high : (b : Bool) (x : ℕ) → (indicator b + 2 * x) / 2 ≡ x
high true x = omega arith
high false x = omega arith

-- ---- all bits

-- as many bits are set as pass the test
pub bits_ones : (n : ℕ) (p : ℕ → Bool) → ones (bits n p) ≡ count n p
unfolding bits ones over
bits_ones zero p = refl
bits_ones (suc n) p = ones_step (bits (suc n) p) ∙ rw (low, high, bits_ones n)

-- ---- `|`

-- the lowest bit of a | b
or_low : (a b : ℕ) → bit_or a b % 2 ≡ max (a % 2) (b % 2)
or_low a b = omega (arith, or_step a b)

-- of two bits the larger is set if either is
max_or : (a b : Bool) → max (indicator a) (indicator b) ≡ indicator (a || b)
max_or true true = refl
max_or true false = refl
max_or false b = omega arith

-- it goes bit by bit
pub bits_or : (n : ℕ) (p q : ℕ → Bool) → bit_or (bits n p) (bits n q) ≡ bits n (λ t. p t || q t)
unfolding bits
bits_or zero p q = refl
bits_or (suc n) p q = rw or_step (simp (low, high, max_or, bits_or n) (omega arith))

-- it is associative
pub or_assoc : (a b c : ℕ) → bit_or (bit_or a b) c ≡ bit_or a (bit_or b c)
or_assoc =
    bin_ind (λ a. (b c : ℕ) → bit_or (bit_or a b) c ≡ bit_or a (bit_or b c)) (λ b c. refl)
    (λ a ih b c. rw (or_step (bit_or a b) c, or_step a (bit_or b c), or_shr a b 1, or_shr b c 1, ih) (omega (arith, or_low a b, or_low b c)))

-- it has the same bits where the tests agree
pub bits_ext : (n : ℕ) {p q : ℕ → Bool} → ((t : ℕ) → t < n → p t ≡ q t) → bits n p ≡ bits n q
unfolding bits
bits_ext zero h = refl
bits_ext (suc n) h = rw (h 0 (omega arith), bits_ext n (λ t l. h (suc t) (omega arith)))

-- ---- no bit, and one

-- where no bit is set
pub bits_none : (n : ℕ) {p : ℕ → Bool} → ((t : ℕ) → t < n → p t ≡ false) → bits n p ≡ 0
unfolding bits
bits_none zero h = refl
bits_none (suc n) h = rw (h 0 (omega arith), bits_none n (λ t l. h (suc t) (omega arith)))

-- where bit k alone is set
bits_one : (n k : ℕ) {p : ℕ → Bool} → k < n → p k ≡ true → ((t : ℕ) → (t ≡ k → ⊥) → p t ≡ false) → bits n p ≡ 2 ^ k
unfolding bits
bits_one zero k l e h = omega arith
bits_one (suc n) zero l e h = rw (e, bits_none n (λ t l. h (suc t) (λ q. omega arith)))
bits_one (suc n) (suc k) l e h =
    rw (h 0 (λ q. omega arith), bits_one n k (omega arith) e (λ t d. h (suc t) (λ q. d (omega arith)))) (omega (arith, pow-suc 2 k))

-- two tests that do not both pass
not_both : (a b : Bool) → (a ≡ true → b ≡ true → ⊥) → (a && b) ≡ false
not_both true true h = absurd (h refl refl)
not_both true false h = refl
not_both false b h = refl

-- bit k of n, for measure m
module _ (n k m : ℕ) where
  pub bit_none : m ≡ 0 → bits n (λ t. eqb k t && ltb 0 m) ≡ 0
  bit_none e = bits_none n (λ t l. not_both (eqb k t) (ltb 0 m) (λ x y. omega (arith, ltb-true 0 m y)))

  pub bit_one : k < n → 0 < m → bits n (λ t. eqb k t && ltb 0 m) ≡ 2 ^ k
  bit_one l g = bits_one n k l (rw (eq-eqb k k refl, lt-ltb 0 m g)) (λ t d. not_both (eqb k t) (ltb 0 m) (λ x y. d (omega (arith, eqb-true k t x))))
