-- How long the lines are: by their parts, and in bytes for the numbers that can stand there. Assumes nothing.
use Prim.Native.Nat.{ℕ, ◌+◌, ◌*◌, ◌^◌, ◌≤◌, ◌<◌}
use mathlib.Core.Path.{◌≡◌, refl, ap, ◌∙◌}
use mathlib.Core.List.Memᴰ
use mathlib.Core.List.{List, [], ◌∷◌, ◌++◌}
use native.Mathlib.Omega.{arith}
use lib.ListN.{length, length-append}
use Rattle.probability.proofs.Lists.{All}
use Rattle.sheet.specs.Sheet.{most_rounds}
use Rattle.reply.specs.Reply.{numbered}
use Rattle.selection.specs.Choice.{Choice}
use Rattle.selection.proofs.Choices.{Sound}
use Rattle.report.specs.Report.{most_words, decimal, field, space, LF, choice_line, choice_lines, words_label, words_line, refused_label, refused_line, text_room}
use Rattle.report.proofs.Decimals.{field_le}

-- ---- by parts

pub length_field : (n b : ℕ) → length (field n b) ≡ length (decimal n) + 1
unfolding field
length_field n b = length-append (decimal n) (b ∷ [])

pub length_line : (round number outcome : ℕ)
    → length (choice_line round number outcome) ≡ length (field round space) + (length (field number space) + length (field outcome LF))
unfolding choice_line
length_line round number outcome = rw (length-append, length-append)

pub length_words : (n : ℕ) → length (words_line n) ≡ 6 + length (field n LF)
unfolding words_line
length_words n = length-append words_label (field n LF)

pub length_refused : (number place : ℕ) → length (refused_line (numbered number place)) ≡ 8 + (length (field number space) + length (field place LF))
unfolding refused_line
length_refused number place =
    length-append refused_label (field number space ++ field place LF) ∙ ap (λ n. 8 + n) (length-append (field number space) (field place LF))

-- ---- in bytes

-- whatever the number is
pub field_room : (n b : ℕ) → n < 2 ^ 64 → length (field n b) ≤ 21
field_room n b h = field_le 19 n b (omega arith)

line_le : (c : Choice) → Sound c → length (choice_line c.round c.number c.outcome) ≤ 16
line_le c p =
    omega (
      arith,
      length_line c.round c.number c.outcome,
      field_le 2 c.round space (omega (arith, p.upto)),
      field_le 8 c.number space (omega (arith, p.number)),
      field_le 0 c.outcome LF (omega (arith, p.most)),
    )

lines_le : (cs : List Choice) → All Sound cs → length (choice_lines cs) ≤ 16 * length cs
unfolding choice_lines
lines_le [] e = omega arith
lines_le (c ∷ cs) e = rw length-append (omega (arith, line_le c (e c (Memᴰ.head refl)), lines_le cs (λ k m. e k (Memᴰ.tail m))))

pub chosen_le : (cs : List Choice) (k : ℕ) → All Sound cs → length cs ≤ most_rounds → k ≤ most_words → length (choice_lines cs ++ words_line k) ≤ text_room
chosen_le cs k e n h =
    rw length-append (omega (arith, lines_le cs e, length_words k, field_le 3 k LF (omega arith)))
