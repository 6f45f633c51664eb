-- Draws with their values, as one table to be computed: the document's numbers are literals, so that none of them can change in definition and
-- code together.
use Rattle.std.specs.Prelude.{ℕ, ◌-◌, ◌^◌, Bool, true, false, ◌&&◌, List, [], ◌∷◌, eqb, Option, Some, None}
use Rattle.draw.specs.Draw.{largest, draw_at}

abbrev pub same_drawn : Option (ℕ × ℕ) → Option (ℕ × ℕ) → Bool
same_drawn (Some (v, n)) (Some (w, m)) = eqb v w && eqb n m
same_drawn (Some (v, n)) None = false
same_drawn None (Some (w, m)) = false
same_drawn None None = true

-- a bound, random words, a position, and what a draw finds
abbrev case : ℕ → List ℕ → ℕ → Option (ℕ × ℕ) → Bool
case b ws i d = same_drawn (draw_at largest ws i b) d

abbrev pub cases : List Bool
cases =
    -- "M4 Bound 3: word 2^64 − 1 passed over. M5 Word 2^64 − 2 gives 2."
    case 3 ((2 ^ 64 - 1) ∷ []) 0 None
    ∷ case 3 ((2 ^ 64 - 2) ∷ []) 0 (Some (2, 1))
    -- "K is the whole part of (2^64 − 1) / W": from 2^64 it would be one more where W divides 2^64, and no word would be passed over
    ∷ case 2 ((2 ^ 64 - 3) ∷ []) 0 (Some (1, 1))
    ∷ case 2 ((2 ^ 64 - 2) ∷ (2 ^ 64 - 1) ∷ 7 ∷ []) 0 (Some (1, 3))
    ∷ case 0x100000 (0xFFFFFFFFFFEFFFFF ∷ []) 0 (Some (0xFFFFF, 1))
    ∷ case 0x100000 (0xFFFFFFFFFFF00000 ∷ []) 0 None
    -- "A draw below 1 uses a word too."
    ∷ case 1 [] 0 None
    ∷ case 1 ((2 ^ 64 - 2) ∷ []) 0 (Some (0, 1))
    ∷ case 1 ((2 ^ 64 - 1) ∷ 5 ∷ []) 0 (Some (0, 2))
    -- "read from a start position on"
    ∷ case 4 (5 ∷ 6 ∷ 7 ∷ []) 1 (Some (2, 2))
    ∷ case 4 (5 ∷ []) 1 None
    ∷ []
