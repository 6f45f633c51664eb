-- The places of the bits that are set in a number, and in two words of 64 bits.
use Rattle.std.specs.Prelude.{ℕ, zero, suc, ◌/◌, ◌%◌, cond, Option, List, [], ◌∷◌, ◌++◌, eqb, get_or, slice_get}

-- the places of the bits that are set among the lowest n, rising; the lowest bit has place a
unfoldable pub set_from : (a n w : ℕ) → List ℕ
set_from a zero w = []
set_from a (suc n) w = cond (eqb (w % 2) 1) (a ∷ set_from (suc a) n (w / 2)) (set_from (suc a) n (w / 2))

-- the bits that are set in two words of 64 bits
abbrev pub set_bits : (low high : ℕ) → List ℕ
set_bits low high = set_from 0 64 low ++ set_from 64 64 high

-- the first two of them, if there are so many
abbrev pub first_two : List ℕ → Option ℕ × Option ℕ
first_two words = let set = set_bits (get_or words 0 0) (get_or words 1 0) in (slice_get set 0, slice_get set 1)
