-- Sums over a range, over a list and by a key, and counting as a sum.
use Rattle.std.specs.Prelude.{ℕ, zero, suc, ◌+◌, Bool, true, false, cond, List, [], ◌∷◌, eqb}

-- op (f 0) (op (f 1) .. (op (f (n - 1)) e)), for any operation
unfoldable pub over : {A : Type 0} → (A → A → A) → A → ℕ → (ℕ → A) → A
over op e zero f = e
over op e (suc n) f = op (f 0) (over op e n (λ i. f (suc i)))

-- f 0 + f 1 + .. + f (n - 1)
abbrev pub Σ : ℕ → (ℕ → ℕ) → ℕ
Σ n f = over ◌+◌ 0 n f

-- the sum of a list
unfoldable pub total : List ℕ → ℕ
total [] = 0
total (n ∷ ns) = n + total ns

-- the value of an element if its key is k, else 0
abbrev pub value_by : {A : Type 0} → (A → ℕ) → (A → ℕ) → ℕ → A → ℕ
value_by key value k x = cond (eqb (key x) k) (value x) 0

-- the sum of `value` over the elements of a list whose key is k
unfoldable pub total_by : {A : Type 0} → (A → ℕ) → (A → ℕ) → ℕ → List A → ℕ
total_by key value k [] = 0
total_by key value k (x ∷ xs) = value_by key value k x + total_by key value k xs

-- 1 where a test passes, 0 where it does not
abbrev pub indicator : Bool → ℕ
indicator true = 1
indicator false = 0

-- how many numbers below n pass a test
abbrev pub count : ℕ → (ℕ → Bool) → ℕ
count n p = Σ n (λ i. indicator (p i))
