-- A list cut into pieces of equal length.
use Rattle.std.specs.Prelude.{ℕ, zero, suc, ◌/◌, List, [], ◌∷◌, length, take, drop}

-- the first n pieces of length k
unfoldable pub cut : {A : Type 0} → (k n : ℕ) → List A → List (List A)
cut k zero xs = []
cut k (suc n) xs = take k xs ∷ cut k n (drop k xs)

-- all whole pieces of length k
abbrev pub pieces : {A : Type 0} → ℕ → List A → List (List A)
pieces k xs = cut k (length xs / k) xs
