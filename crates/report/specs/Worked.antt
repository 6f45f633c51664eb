-- Files with what is printed of them, as one table to be computed. Its numbers and letters are literals, so that none of them can change in
-- definition and code together.
use Rattle.std.specs.Prelude.{ℕ, zero, suc, ◌/◌, ◌%◌, Bool, List, [], ◌∷◌, ◌++◌, length}
use Rattle.probability.specs.Table.{same}
use Rattle.sheet.specs.Worked.{example}
use Rattle.report.specs.Report.{report}

-- a sheet that is kept whole and the words, and the text
abbrev case : List ℕ → List ℕ → List ℕ → Bool
case sheet words text = same (report sheet (length sheet) words) text

-- a sheet of which only the size in bytes matters, and the text
abbrev long : ℕ → List ℕ → Bool
long size text = same (report [] size []) text

-- the bytes of a number, the lowest first
abbrev bytes : ℕ → ℕ → List ℕ
bytes zero w = []
bytes (suc k) w = w % 256 ∷ bytes k (w / 256)

-- the bytes of numbers, `size` bytes each
abbrev file : ℕ → List ℕ → List ℕ
file size [] = []
file size (w ∷ ws) = bytes size w ++ file size ws

-- the bytes of the document's sheet
abbrev example_file : List ℕ
example_file = file 4 example

-- "words" and a space, then some bytes and LF
abbrev words : List ℕ → List ℕ
words n = 119 ∷ 111 ∷ 114 ∷ 100 ∷ 115 ∷ 32 ∷ n ++ (10 ∷ [])

-- "refused" and a space, then some bytes and LF
abbrev refused : List ℕ → List ℕ
refused n = 114 ∷ 101 ∷ 102 ∷ 117 ∷ 115 ∷ 101 ∷ 100 ∷ 32 ∷ n ++ (10 ∷ [])

abbrev pub cases : List Bool
cases =
    -- "chance words 10 and 0, prints 1 11 2, words 2"
    case example_file (file 8 (10 ∷ 0 ∷ [])) (49 ∷ 32 ∷ 49 ∷ 49 ∷ 32 ∷ 50 ∷ 10 ∷ words (50 ∷ []))
    -- "an unfinished last word is ignored": refusal 13 in round 1
    ∷ case example_file (file 8 (10 ∷ []) ++ (0 ∷ 0 ∷ [])) (refused (49 ∷ 51 ∷ 32 ∷ 49 ∷ []))
    -- "A file that cannot be read counts as empty."
    ∷ case [] [] (refused (49 ∷ 32 ∷ 48 ∷ []))
    -- "A sheet of bytes not divisible by 4, however long, is refusal 1 with its byte length as place.": 45 bytes, and 49,561
    ∷ case (example_file ++ (0 ∷ [])) [] (refused (49 ∷ 32 ∷ 52 ∷ 53 ∷ []))
    ∷ long 49561 (refused (49 ∷ 32 ∷ 52 ∷ 57 ∷ 53 ∷ 54 ∷ 49 ∷ []))
    -- "Length 0 or above 12,389 words. Place: the length.": 49,556 bytes, of which none was kept, are not too many; 49,560 are 12,390 words
    ∷ long 49556 (refused (49 ∷ 32 ∷ 48 ∷ []))
    ∷ long 49560 (refused (49 ∷ 32 ∷ 49 ∷ 50 ∷ 51 ∷ 57 ∷ 48 ∷ []))
    -- "A sheet of one end word with 0 lifts is accepted and has no choices."
    ∷ case (file 4 (0xF0000000 ∷ [])) [] (words (48 ∷ []))
    ∷ []
