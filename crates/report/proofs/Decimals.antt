-- Decimal digits: the equations of the definition without its bound, and how many digits a number has. Assumes nothing.
use Prim.Native.Nat.{ℕ, zero, suc, ◌+◌, ◌*◌, ◌/◌, ◌%◌, ◌^◌, ◌≤◌, ◌<◌}
use mathlib.Core.Path.{◌≡◌, refl, ap, ◌∙◌}
use mathlib.Core.Bool.{Bool, true, false}
use mathlib.Core.List.{[], ◌∷◌, ◌++◌}
use native.Mathlib.Nat.{pow-suc}
use native.Mathlib.Omega.{arith}
use lib.Dec.{ltb}
use lib.ListN.{length, length-append}
use borrow.Author.Tests.{lt-ltb, le-ltb, ltb-true, ltb-false}
use Rattle.report.specs.Report.{digit, digits, decimal, field}

-- ---- the bound does not matter

digits_low : (k n : ℕ) → n < 10 → digits k n ≡ digit n ∷ []
unfolding digits
digits_low zero n h = refl
digits_low (suc k) n h = rw (lt-ltb n 10 h)

digits_high : (k n : ℕ) → 10 ≤ n → digits (suc k) n ≡ digits k (n / 10) ++ (digit (n % 10) ∷ [])
unfolding digits
digits_high k n h = rw (le-ltb n 10 h)

digits_same : (k j n : ℕ) → n ≤ k → n ≤ j → digits k n ≡ digits j n
digits_same zero j n p q = digits_low zero n (omega arith) ∙ rw (digits_low j n (omega arith))
digits_same (suc k) zero n p q = digits_low (suc k) n (omega arith) ∙ rw (digits_low zero n (omega arith))
digits_same (suc k) (suc j) n p q = go (ltb n 10) refl (λ h. digits_same k j (n / 10) (omega arith) (omega arith))
  where
    go : (t : Bool) → ltb n 10 ≡ t → (10 ≤ n → digits k (n / 10) ≡ digits j (n / 10)) → digits (suc k) n ≡ digits (suc j) n
    go true e rest = rw (digits_low (suc k) n (ltb-true n 10 e), digits_low (suc j) n (ltb-true n 10 e))
    go false e rest =
        rw (digits_high k n (ltb-false n 10 e), digits_high j n (ltb-false n 10 e), rest (ltb-false n 10 e))

-- ---- a digit, or digits before the last one

pub decimal_low : (n : ℕ) → n < 10 → decimal n ≡ digit n ∷ []
unfolding decimal
decimal_low n h = digits_low n n h

pub decimal_high : (n : ℕ) → 10 ≤ n → decimal n ≡ decimal (n / 10) ++ (digit (n % 10) ∷ [])
unfolding decimal
decimal_high zero h = absurd (omega arith)
decimal_high (suc n) h =
    digits_high n (suc n) h ∙ ap (λ l. l ++ (digit (suc n % 10) ∷ [])) (digits_same n (suc n / 10) (suc n / 10) (omega arith) (omega arith))

-- ---- how many

pub length_high : (n : ℕ) → 10 ≤ n → length (decimal n) ≡ length (decimal (n / 10)) + 1
length_high n h = rw (decimal_high n h) (length-append (decimal (n / 10)) (digit (n % 10) ∷ []))

pub decimal_le : (k n : ℕ) → n < 10 ^ suc k → length (decimal n) ≤ suc k
decimal_le zero n h = rw (decimal_low n (omega arith)) (omega arith)
decimal_le (suc k) n h = go (ltb n 10) refl (λ p. decimal_le k (n / 10) p)
  where
    go : (t : Bool) → ltb n 10 ≡ t → (n / 10 < 10 ^ suc k → length (decimal (n / 10)) ≤ suc k) → length (decimal n) ≤ suc (suc k)
    go true e rest = rw (decimal_low n (ltb-true n 10 e)) (omega arith)
    go false e rest =
        let p : n < 10 ^ suc k * 10 = rw pow-suc at h in
        rw (decimal_high n (ltb-false n 10 e), length-append) (omega (arith, rest (omega arith)))

-- the same with a byte behind it
pub field_le : (k n b : ℕ) → n < 10 ^ suc k → length (field n b) ≤ suc k + 1
unfolding field
field_le k n b h = rw length-append (omega (arith, decimal_le k n h))
