-- The ways out of the call: the sheet lent, the lines, the result.
use Prim.Native.Nat.{ℕ, ◌+◌, ◌≤◌}
use mathlib.Core.Path.{◌≡◌, sym, ap, subst, ◌∙◌}
use mathlib.Core.Bool.{Bool, true, false, cond, not, ◌&&◌}
use mathlib.Core.List.{List, [], ◌∷◌}
use native.Mathlib.Omega.{arith}
use lib.ListN.{length, length-map}
use Rattle.std.specs.Prelude.{Option, All, IfSome}
use Rattle.sheet.specs.Sheet.{largest_sum, Lift, lifts, sheet_of}
use Rattle.reply.specs.Reply.{numbered, replied, of_refusal, unless_refused}
use Rattle.reply.specs.declared.Reply.{Reply}
use Rattle.reply.proofs.Replies.{left}
use Rattle.probability.specs.Among.{among}
use Rattle.sheet.specs.Reading.{Reading, faulty, of_words, Legible}
use Rattle.tally.specs.Verdict.{Verdict, refused, fits, crowded, unless_faulty, verdict, of_verdict}
use Rattle.reply.specs.Refusal.{refusal_of}
use Rattle.sheet.specs.Law.{AllWellFormed}
use Rattle.sheet.proofs.Trips.{read_theorem}
use Rattle.sheet.proofs.Legibility.{words_legible, AboveWord, above_of_words}
use Rattle.tally.proofs.Verdicts.{decided}
use Rattle.reply.specs.declared.Refusal.{Refusal}
use Rattle.counts.specs.Text.{lines, CountLine, counted, malformed, count_line}
use Rattle.counts.specs.Counts.{at_line, lines_from, numbers_of, of_lines, renewed, counts_verdict, counts_reply, counts_output}
use Rattle.intake.specs.Positions.{RisingAbove, measures_for, AllTaken, lifts_with, sheet_with}
use Rattle.intake.proofs.Measures.{all_small, lifts_measured}

-- ---- the lifts of a legible sheet

pub few : {ws : List ℕ} {n : ℕ} → Legible ws → n ≡ length (lifts ws) → n ≤ 4096
few {ws} l e = omega (arith, (read_theorem ws l.read).well_formed.few)

numbers_rising : (n : ℕ) (ls : List Lift) → AllWellFormed n ls → RisingAbove n (numbers_of ls)
unfolding AllWellFormed RisingAbove
numbers_rising n [] h = tt
numbers_rising n (l ∷ ls) h = (h.0.rises, numbers_rising l.number ls h.1)

-- ---- the lines

-- no refusal of a line has number 0
above_line : (e : CountLine) (i : ℕ) (ns had : List ℕ) (next : ℕ → Reading) → ((n : ℕ) → AboveWord (next n)) → AboveWord (at_line e i ns had next)
above_line malformed i ns had next h = omega arith
above_line (counted n c) i ns had next h = go (among n ns && not (among n had))
  where
    go : (t : Bool) → AboveWord (cond t (next n) (faulty (numbered 15 i)))
    go true = h n
    go false = omega arith

above_lines : (ns had : List ℕ) (i : ℕ) (xs : List (List ℕ)) → AboveWord (lines_from ns had i xs)
unfolding lines_from
above_lines ns had i [] = tt
above_lines ns had i (x ∷ xs) = above_line (count_line x) i ns had _ (λ n. above_lines ns (n ∷ had) (i + 1) xs)

-- the answer behind a legible sheet's words
behind_words : (ws text : List ℕ) → Legible ws → unless_faulty (of_lines (lifts ws) (lines text)) (verdict (renewed ws text)) ≡ counts_verdict ws text
unfolding counts_verdict
behind_words ws text l = ap (λ r. unless_faulty r (unless_faulty (of_lines (lifts ws) (lines text)) (verdict (renewed ws text)))) (words_legible l)

module _ {ws ns : List ℕ} (l : Legible ws) (e : ns ≡ numbers_of (lifts ws)) where
  pub rising : RisingAbove 0 ns
  rising = subst (RisingAbove 0) (sym e) (numbers_rising 0 (lifts ws) (read_theorem ws l.read).well_formed.listed)

  pub numbers_long : length ns ≡ length (lifts ws)
  numbers_long = ap length e ∙ length-map (lifts ws) (λ l. l.number)

  -- a refusal of a line stands before what is said of the result, and nothing is written
  pub at_line_lem : (text new : List ℕ) (rest : Verdict) (reply : ℕ → Reply) (x : Refusal) → lines_from ns [] 1 (lines text) ≡ faulty (refusal_of x)
      → let y = of_verdict (unless_faulty (of_words ws) (unless_faulty (of_lines (lifts ws) (lines text)) rest)) reply in
      (of_refusal (refusal_of x) ≡ y) × (ws ≡ unless_refused y ws new)
  at_line_lem text new rest reply x g =
      let t = rw e at g in
      left ws new (λ z. omega (arith, subst AboveWord t (above_lines (numbers_of (lifts ws)) [] 1 (lines text)), z)) (rw (← words_legible l, t))

  module _ (text : List ℕ) {n : ℕ} {ms : List (Option ℕ)} (t : AllTaken ns (lines text) n ms) where
    is_measures : ms ≡ measures_for (numbers_of (lifts ws)) (lines text)
    is_measures = t.filled ∙ ap (λ ns. measures_for ns (lines text)) e

    pub taken_small : All (λ o. IfSome o (λ m. m ≤ largest_sum)) ms
    taken_small = rw is_measures (all_small (lines text) (numbers_of (lifts ws)))

    sheet_with_lem : sheet_with ws ms ≡ renewed ws text
    sheet_with_lem = ap sheet_of (ap (lifts_with (lifts ws)) is_measures ∙ lifts_measured (lines text) (lifts ws))

    answered : verdict (sheet_with ws ms) ≡ counts_verdict ws text
    answered = ap verdict sheet_with_lem ∙ (rw (rw e at t.sound) at (behind_words ws text l))

    -- the result's verdict is that of the call
    pub at_refused : (x : Refusal) → refused (refusal_of x) ≡ verdict (sheet_with ws ms) → (of_refusal (refusal_of x) ≡ counts_reply ws text) × (ws ≡ counts_output ws text)
    at_refused x v =
        let w = v ∙ answered in
        left ws (renewed ws text) (λ z. omega (arith, (decided crowded (sheet_with ws ms)).above (refusal_of x) (sym v), z)) (rw (← w))

    pub at_fits : {a b : ℕ} → fits a b ≡ verdict (sheet_with ws ms) → (replied n 0 ≡ counts_reply ws text) × (sheet_with ws ms ≡ counts_output ws text)
    at_fits v = let w = v ∙ answered in (rw (← w, t.many), rw (← w) sheet_with_lem)

-- ---- the sheet lent

-- a refusal of its words stands before what is said of the lines and of the result
pub at_word : (ws new : List ℕ) (rest : Verdict) (reply : ℕ → Reply) (x : Refusal) → faulty (refusal_of x) ≡ of_words ws
    → let y = of_verdict (unless_faulty (of_words ws) rest) reply in (of_refusal (refusal_of x) ≡ y) × (ws ≡ unless_refused y ws new)
at_word ws new rest reply x v = left ws new (λ z. omega (arith, subst AboveWord (sym v) (above_of_words ws), z)) (rw (← v))
