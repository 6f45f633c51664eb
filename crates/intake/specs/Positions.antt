-- The text as the code reads it: numbers clamped, lines from the front, new measures in the places of their lifts.
use Rattle.std.specs.Prelude.{ℕ, suc, ◌<◌, ◌≡◌, true, cond, List, [], ◌∷◌, map, eqb, min, length, get_or, take, drop, Option}
use Rattle.sheet.specs.Sheet.{Lift, lifts, sheet_of}
use Rattle.sheet.specs.Reading.{sound}
use Rattle.counts.specs.Text.{LF, lines, is_digit, value, empty, is_number, counted, count_line}
use Rattle.counts.specs.Counts.{lines_from, measure_for, measured_by}
use Rattle.intake.specs.declared.text.Line.{Line}

-- ---- numbers

-- one above the largest number that a line may have
abbrev pub cap : ℕ
cap = 268435456

abbrev pub clamp : ℕ → ℕ
clamp v = min cap v

-- how many bytes at the beginning are digits, and these digits
unfoldable pub span : List ℕ → ℕ
span [] = 0
span (b ∷ bs) = cond (is_digit b) (suc (span bs)) 0

abbrev pub leading : List ℕ → List ℕ
leading bs = take (span bs) bs

-- a number up to a limit that bytes begin with, and the bytes behind it
pub record NumberRead (limit : ℕ) (bs : List ℕ) (n : ℕ) (rest : List ℕ) : Type 0 where
  pub fits : is_number limit (leading bs) ≡ true
  pub value : n ≡ value (leading bs)
  pub behind : rest ≡ drop (span bs) bs

-- ---- lines

-- the first line of a text without its ending, and how long it is with it
unfoldable pub first_line : List ℕ → List ℕ
first_line bs = get_or (lines bs) 0 []

unfoldable pub extent : List ℕ → ℕ
extent [] = 0
extent (b ∷ bs) = cond (eqb b LF) 1 (suc (extent bs))

-- a line's ending that bytes begin with, and the bytes behind it
pub record EndingRead (bs rest : List ℕ) : Type 0 where
  pub ends : empty (first_line bs) ≡ true
  pub behind : rest ≡ drop (extent bs) bs

-- the count that the first line gives a lift, and the bytes behind the line
pub record LineRead (bs : List ℕ) (l : Line) (rest : List ℕ) : Type 0 where
  pub says : count_line (first_line bs) ≡ counted l.lift l.count
  pub behind : rest ≡ drop (extent bs) bs

-- ---- lifts

-- numbers that rise, all above a number
unfoldable pub RisingAbove : ℕ → List ℕ → Type 0
RisingAbove n [] = Unit {0}
RisingAbove n (m ∷ ms) = (n < m) × RisingAbove m ms

-- the new measures that lines give the lifts with these numbers
abbrev pub measures_for : List ℕ → List (List ℕ) → List (Option ℕ)
measures_for ns xs = map (measure_for xs) ns

-- lines that are all taken: how many, and the new measures that they give
pub record AllTaken (ns : List ℕ) (xs : List (List ℕ)) (n : ℕ) (ms : List (Option ℕ)) : Type 0 where
  pub sound : lines_from ns [] 1 xs ≡ sound
  pub many : n ≡ length xs
  pub filled : ms ≡ measures_for ns xs

-- ---- the sheet

-- lifts with new measures, for each in its place, if there is one
unfoldable pub lifts_with : List Lift → List (Option ℕ) → List Lift
lifts_with ls [] = ls
lifts_with [] (m ∷ ms) = []
lifts_with (l ∷ ls) (m ∷ ms) = measured_by l m ∷ lifts_with ls ms

-- a sheet's words with new measures
abbrev pub sheet_with : List ℕ → List (Option ℕ) → List ℕ
sheet_with ws ms = sheet_of (lifts_with (lifts ws) ms)
