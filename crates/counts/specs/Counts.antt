-- Counts taken into a sheet (Card 1 of document 02): the refusals in their order, the reply, and the sheet at the end.
use Rattle.std.specs.Prelude.{ℕ, ◌+◌, ◌/◌, cond, not, ◌&&◌, List, [], ◌∷◌, map, eqb, length, Option, Some, None}
use Rattle.probability.specs.Among.{among}
use Rattle.sheet.specs.Sheet.{Lift, lifts, sheet_of}
use Rattle.reply.specs.Reply.{numbered, replied, unless_refused}
use Rattle.reply.specs.declared.Reply.{Reply}
use Rattle.sheet.specs.Reading.{Reading, faulty, sound, of_words}
use Rattle.tally.specs.Verdict.{Verdict, unless_faulty, verdict, of_verdict}
use Rattle.counts.specs.Text.{lines, CountLine, counted, malformed, count_line}

-- ---- the lines one by one

-- line i, from what it says, the numbers of the sheet's lifts, those that had a line, and what follows if it is taken:
-- "14 when a line has another form, 15 when its lift is absent from the sheet or had a line already"
abbrev pub at_line : CountLine → ℕ → List ℕ → List ℕ → (ℕ → Reading) → Reading
at_line malformed i ns had next = faulty (numbered 14 i)
at_line (counted n c) i ns had next = cond (among n ns && not (among n had)) (next n) (faulty (numbered 15 i))

-- the first faulty line's refusal from line i on, or that none is faulty
unfoldable pub lines_from : List ℕ → List ℕ → ℕ → List (List ℕ) → Reading
lines_from ns had i [] = sound
lines_from ns had i (x ∷ xs) = at_line (count_line x) i ns had (λ n. lines_from ns (n ∷ had) (i + 1) xs)

abbrev pub numbers_of : List Lift → List ℕ
numbers_of ls = map (λ l. l.number) ls

-- "both come line by line, 14 first, .. place the line from 1"
abbrev pub of_lines : List Lift → List (List ℕ) → Reading
of_lines ls xs = lines_from (numbers_of ls) [] 1 xs

-- ---- the new measures

-- "the count divided by 100, rounded up"
abbrev pub hundreds : ℕ → ℕ
hundreds c = (c + 99) / 100

-- a lift with another new measure
abbrev pub remeasured : Lift → ℕ → Lift
remeasured l m = record { number = l.number; old = l.old; new = record { round = l.new.round; measure = m }; held = l.held }

-- "the lift's new measure becomes the count divided by 100, rounded up": if the line names lift n, else the measure that other lines give it
abbrev pub measure_by : CountLine → ℕ → Option ℕ → Option ℕ
measure_by (counted m c) n other = cond (eqb m n) (Some (hundreds c)) other
measure_by malformed n other = other

-- the new measure that the lines give lift n, if one names it
unfoldable pub measure_for : List (List ℕ) → ℕ → Option ℕ
measure_for [] n = None
measure_for (x ∷ xs) n = measure_by (count_line x) n (measure_for xs n)

-- "Lifts without a line keep theirs."
abbrev pub measured_by : Lift → Option ℕ → Lift
measured_by l (Some m) = remeasured l m
measured_by l None = l

abbrev pub measured : List (List ℕ) → Lift → Lift
measured xs l = measured_by l (measure_for xs l.number)

-- the words of the lifts with the counts of a text
abbrev pub renewed : List ℕ → List ℕ → List ℕ
renewed sheet text = sheet_of (map (measured (lines text)) (lifts sheet))

-- ---- the order of the refusals

-- 14 and 15 "after 1 to 6 for the sheet lent", and so after 16, "wherever 4 is checked"; "The result is then checked as any sheet."
unfoldable pub counts_verdict : List ℕ → List ℕ → Verdict
counts_verdict sheet text = unless_faulty (of_words sheet) (unless_faulty (of_lines (lifts sheet) (lines text)) (verdict (renewed sheet text)))

-- ---- the reply and the sheet at the end

-- the reply to a sheet and a text: "a call that chooses nothing and names no other answer replies 0, how many lines it took .., and 0 words
-- read"
abbrev pub counts_reply : List ℕ → List ℕ → Reply
counts_reply sheet text = of_verdict (counts_verdict sheet text) (λ _. replied (length (lines text)) 0)

-- the sheet after the call: "Any refusal writes nothing."
abbrev pub counts_output : List ℕ → List ℕ → List ℕ
counts_output sheet text = unless_refused (counts_reply sheet text) sheet (renewed sheet text)
