-- "The program" of document 01: from the bytes of both files to the printed text.
use Rattle.std.specs.Prelude.{ℕ, zero, suc, ◌+◌, ◌*◌, ◌/◌, ◌%◌, min, ◌≡◌, cond, eqb, ltb, length, get_or, take}
use mathlib.Core.List.{List, [], ◌∷◌, ◌++◌, map, flat_map}
use Rattle.probability.specs.Pieces.{pieces}
use Rattle.sheet.specs.Sheet.{most_rounds, longest, payload, place_of, lifts}
use Rattle.reply.specs.Reply.{Numbered, numbered}
use Rattle.reply.specs.declared.Reply.{Reply}
use Rattle.selection.specs.Choice.{fourth, Choice, Panel, chosen, short, panel, reply}

-- ---- the files

-- the number of some bytes, "little-endian": the lowest byte first
unfoldable pub little_endian : List ℕ → ℕ
little_endian [] = 0
little_endian (b ∷ bs) = b + 256 * little_endian bs

-- the words of `size` bytes: "an unfinished last word is ignored"
unfoldable pub little_endian_words : ℕ → List ℕ → List ℕ
little_endian_words size bytes = map little_endian (pieces size bytes)

-- "sheet.bin (32-bit little-endian)"
abbrev pub sheet_words : List ℕ → List ℕ
sheet_words bytes = little_endian_words 4 bytes

-- "the first 4,096 words"
abbrev pub most_words : ℕ
most_words = 4096

-- "words.bin (64-bit little-endian, the first 4,096 words; ..)"
abbrev pub random_words : List ℕ → List ℕ
random_words bytes = take most_words (little_endian_words 8 bytes)

-- proved: of the whole words of a file of random words the first 4,096 are read
abbrev pub CountTheorem : Type 0
CountTheorem = (bytes : List ℕ) → length (random_words bytes) ≡ min 4096 (length bytes / 8)

-- ---- numbers in the text

-- a decimal digit in ASCII
abbrev pub digit : ℕ → ℕ
digit d = 48 + d

-- the decimal digits of a number, at most k + 1 of them
unfoldable pub digits : ℕ → ℕ → List ℕ
digits zero n = digit n ∷ []
digits (suc k) n = cond (ltb n 10) (digit n ∷ []) (digits k (n / 10) ++ (digit (n % 10) ∷ []))

-- a number in decimal, with no zeros in front: a number n has at most n + 1 digits
unfoldable pub decimal : ℕ → List ℕ
decimal n = digits n n

-- a number and a byte behind it
unfoldable pub field : ℕ → ℕ → List ℕ
field n behind = decimal n ++ (behind ∷ [])

-- ---- lines

-- a space in ASCII
abbrev pub space : ℕ
space = 32

-- "LF" in ASCII
abbrev pub LF : ℕ
LF = 10

-- "`round lift outcome`", "each line ends with LF"
unfoldable pub choice_line : ℕ → ℕ → ℕ → List ℕ
choice_line round number outcome = field round space ++ (field number space ++ field outcome LF)

-- "It prints `round lift outcome` per choice"
unfoldable pub choice_lines : List Choice → List ℕ
choice_lines [] = []
choice_lines (c ∷ cs) = choice_line c.round c.number c.outcome ++ choice_lines cs

-- the letters of "words", and a space
abbrev pub words_label : List ℕ
words_label = 119 ∷ 111 ∷ 114 ∷ 100 ∷ 115 ∷ space ∷ []

-- "then `words N`"
unfoldable pub words_line : ℕ → List ℕ
words_line n = words_label ++ field n LF

-- the letters of "refused", and a space
abbrev pub refused_label : List ℕ
refused_label = 114 ∷ 101 ∷ 102 ∷ 117 ∷ 115 ∷ 101 ∷ 100 ∷ space ∷ []

-- "or `refused N place`"
unfoldable pub refused_line : Numbered → List ℕ
refused_line x = refused_label ++ (field x.number space ++ field x.place LF)

-- ---- the whole text

-- what is printed of a reply, with the lines of its choices
abbrev pub printed : Reply → List ℕ → List ℕ
printed r choices = cond (eqb r.number 0) (choices ++ words_line r.third) (refused_line (numbered r.number r.second))

-- the choices of a panel
abbrev pub choices_of : Panel → List Choice
choices_of (chosen cs next) = cs
choices_of (short r) = []

-- the text of a sheet and random words: "starting at 0", with an output that every sheet's choices fit
unfoldable pub text_of : List ℕ → List ℕ → List ℕ
text_of sheet ws = printed (reply fourth sheet ws 0 (2 * most_rounds)) (choice_lines (choices_of (panel fourth (lifts sheet) ws 0)))

-- the whole text, from the sheet's bytes, its true length in bytes, and the bytes of the words: "A sheet of bytes not divisible by 4,
-- however long, is refusal 1 with its byte length as place."
unfoldable pub report : List ℕ → ℕ → List ℕ → List ℕ
report sheet size words =
    cond (eqb (size % 4) 0)
    (cond (ltb longest (size / 4)) (refused_line (numbered 1 (size / 4)))
    (text_of (sheet_words (take size sheet)) (random_words words)))
    (refused_line (numbered 1 size))

-- ---- as the code writes it

-- the line of two output words: "kind 5 (upper 7 bits round, lower 21 outcome), kind 6 (lift number)"
abbrev pub pair_line : List ℕ → List ℕ
pair_line p = choice_line (place_of (get_or p 0 0)).round (payload (get_or p 1 0)) (place_of (get_or p 0 0)).measure

-- the lines of output words, two for each choice
unfoldable pub pair_lines : List ℕ → List ℕ
pair_lines ws = flat_map pair_line (pieces 2 ws)

-- room for every text
abbrev pub text_room : ℕ
text_room = 2048

-- proved: a sheet of bytes divisible by 4, however long, has the text of its words
abbrev pub WholeTheorem : Type 0
WholeTheorem = (sheet words : List ℕ) → length sheet % 4 ≡ 0 → report sheet (length sheet) words ≡ text_of (sheet_words sheet) (random_words words)
