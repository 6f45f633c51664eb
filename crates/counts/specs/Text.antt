-- The centre's text of door counts (Card 1 of document 02; "RFC 4180, without quoting"): its lines, and what a line says.
use Rattle.std.specs.Prelude.{ℕ, ◌+◌, ◌*◌, ◌-◌, Bool, true, false, cond, not, ◌&&◌, List, [], ◌∷◌, eqb, leb, get_or}

-- ---- lines

-- the bytes of RFC 4180's grammar, in ASCII
abbrev pub LF : ℕ
LF = 10

abbrev pub CR : ℕ
CR = 13

abbrev pub comma : ℕ
comma = 44

-- a byte put before the first line
abbrev pub ahead : ℕ → List (List ℕ) → List (List ℕ)
ahead b [] = (b ∷ []) ∷ []
ahead b (l ∷ ls) = (b ∷ l) ∷ ls

-- whether a byte and those behind it begin with CR LF
abbrev pub ending_cr : ℕ → List ℕ → Bool
ending_cr b bs = eqb b CR && eqb (get_or bs 0 0) LF

-- the lines of a text without their endings: "ended by LF or CR LF; the last may lack its ending". A CR that is not before an LF belongs to
-- its line
unfoldable pub lines : List ℕ → List (List ℕ)
lines [] = []
lines (b ∷ bs) = cond (eqb b LF) ([] ∷ lines bs) (cond (ending_cr b bs) (lines bs) (ahead b (lines bs)))

-- ---- fields

-- the part of a line before its first comma, and the part behind it
unfoldable pub before_comma : List ℕ → List ℕ
before_comma [] = []
before_comma (b ∷ bs) = cond (eqb b comma) [] (b ∷ before_comma bs)

unfoldable pub behind_comma : List ℕ → List ℕ
behind_comma [] = []
behind_comma (b ∷ bs) = cond (eqb b comma) bs (behind_comma bs)

-- ---- numbers

-- "decimal digits", in ASCII
abbrev pub is_digit : ℕ → Bool
is_digit b = leb 48 b && leb b 57

unfoldable pub all_digits : List ℕ → Bool
all_digits [] = true
all_digits (b ∷ bs) = is_digit b && all_digits bs

-- the number that decimal digits write after those of a number v, and by themselves
unfoldable pub value_from : ℕ → List ℕ → ℕ
value_from v [] = v
value_from v (b ∷ bs) = value_from (v * 10 + (b - 48)) bs

abbrev pub value : List ℕ → ℕ
value bs = value_from 0 bs

abbrev pub empty : List ℕ → Bool
empty [] = true
empty (b ∷ bs) = false

-- one decimal digit or more, "leading zeros allowed", of a number up to a limit
abbrev pub is_number : ℕ → List ℕ → Bool
is_number limit bs = not (empty bs) && (all_digits bs && leb (value bs) limit)

-- ---- a line

-- "a lift number up to 268,435,455"
abbrev pub largest_lift : ℕ
largest_lift = 268435455

-- "a count up to 104,857,600"
abbrev pub largest_count : ℕ
largest_count = 104857600

-- what a line says: the count of a lift, or nothing, as it "has another form"
pub data CountLine : Type 0 where
  counted : (lift count : ℕ) → CountLine
  malformed : CountLine

-- "each line is a lift number .., a comma and a count .., both decimal digits". A line without a comma has nothing behind it, which is
-- no number; a second comma is no digit
unfoldable pub count_line : List ℕ → CountLine
count_line l = cond (is_number largest_lift (before_comma l) && is_number largest_count (behind_comma l)) (counted (value (before_comma l)) (value (behind_comma l))) malformed
