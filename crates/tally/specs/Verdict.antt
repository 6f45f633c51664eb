-- "Refused because of the sheet" of document 01.
use Rattle.std.specs.Prelude.{ℕ, Bool, not, ◌&&◌, List, [], ◌∷◌, map, length, eqb, leb, ltb, Result, Ok, Err}
use Rattle.sheet.specs.Sheet.{largest_sum, Lift, lifts}
use Rattle.reply.specs.Reply.{Numbered, numbered, of_refusal}
use Rattle.reply.specs.declared.Reply.{Reply}
use Rattle.reply.specs.Refusal.{refusal_of}
use Rattle.reply.specs.declared.Refusal.{Refusal}
use Rattle.reply.specs.declared.Refusal.TheVariants.{TooManyDonors}
use Rattle.sheet.specs.Reading.{Reading, faulty, sound, of_words}
use Rattle.tally.specs.Rounds.{rounds, lift_count, in_use, sum_of, held_count, donors}
use Rattle.sheet.specs.Lift.{Side, Old, New}
use Rattle.sheet.specs.declared.Sheet.{Sheet}

-- the verdict on a sheet: a refusal by number and place, or that it fits, with how many lifts and new rounds it has
pub data Verdict : Type 0 where
  refused : Numbered → Verdict
  fits : (lifts rounds : ℕ) → Verdict

-- ---- the refusals of rounds (those of words: Reading.antt of `sheet`)

-- "7. An old round from 1 up, named by any lift, without exactly one held lift."
abbrev pub not_one_held : List Lift → ℕ → Bool
not_one_held ls r = ltb 0 (lift_count Old r ls) && not (eqb (held_count r ls) 1)

-- "8. A sum above 1,048,576"
abbrev pub oversize : Side → List Lift → ℕ → Bool
oversize side ls r = ltb largest_sum (sum_of side r ls)

-- "9. A new round whose sum is 0."
abbrev pub zero_sum : List Lift → ℕ → Bool
zero_sum ls r = ltb 0 (lift_count New r ls) && eqb (sum_of New r ls) 0

-- "10. A new round with three donors or more; the different old rounds that send it measure are counted."
abbrev pub too_many_donors : List Lift → ℕ → Bool
too_many_donors ls r = ltb 0 (lift_count New r ls) && leb 3 (length (donors r ls))

-- ---- their order

-- refusal n of the first of the rounds that meet it, if there is one, else what follows
unfoldable pub first_round : ℕ → List ℕ → Verdict → Verdict
first_round n [] v = v
first_round n (r ∷ rs) v = refused (numbered n r)

-- the first of some refusals, if there is one, else what follows
unfoldable pub first_refusal : List Refusal → Verdict → Verdict
first_refusal [] v = v
first_refusal (x ∷ xs) v = refused (refusal_of x)

-- 10 for each new round that it meets, rising
abbrev pub crowded : List Lift → List Refusal
crowded ls = map TooManyDonors (rounds (too_many_donors ls))

-- nothing is refused behind 9
abbrev pub nothing_more : List Lift → List Refusal
nothing_more ls = []

-- "then 7, 8, 9, 10, each over all rounds rising before the next"; of 8, "old rounds tried first"; what follows 9 depends on the call
unfoldable pub of_rounds : List Refusal → List Lift → Verdict
of_rounds last ls =
    first_round 7 (rounds (not_one_held ls))
    (first_round 8 (rounds (oversize Old ls))
    (first_round 8 (rounds (oversize New ls))
    (first_round 9 (rounds (zero_sum ls))
    (first_refusal last (fits (length ls) (length (in_use New ls)))))))

-- the refusal that a reading met, else what follows
abbrev pub unless_faulty : Reading → Verdict → Verdict
unless_faulty (faulty x) v = refused x
unless_faulty sound v = v

-- the refusals of the words, "then" those of the rounds; `refuses` gives those behind 9
unfoldable pub verdict_by : (List Lift → List Refusal) → List ℕ → Verdict
verdict_by refuses ws = unless_faulty (of_words ws) (of_rounds (refuses (lifts ws)) (lifts ws))

-- the verdict with 10 behind 9
abbrev pub verdict : List ℕ → Verdict
verdict ws = verdict_by crowded ws

-- the reply of a refused sheet, or what follows from the new rounds of a fitting one
abbrev pub of_verdict : Verdict → (ℕ → Reply) → Reply
of_verdict (refused x) reply = of_refusal x
of_verdict (fits n rounds) reply = reply rounds

-- ---- the code's answer

-- the verdict that an answer to a sheet stands for
abbrev pub verdict_of : Result Sheet Refusal → Verdict
verdict_of (Err x) = refused (refusal_of x)
verdict_of (Ok s) = fits s.lifts s.rounds

-- an answer with the counts alone of the sheet that it gives
abbrev pub counts_of : {A : Type 0} → Result A Refusal → (A → Sheet) → Result Sheet Refusal
counts_of (Err x) counts = Err x
counts_of (Ok a) counts = Ok (counts a)
