-- A sheet of bytes divisible by 4 has the text of its words, also one that is too long. Assumes nothing.
use Prim.Native.Nat.{ℕ, ◌*◌, ◌/◌, ◌%◌, ◌<◌}
use mathlib.Core.Path.{◌≡◌, refl, sym}
use mathlib.Core.Bool.{Bool, true, false, cond}
use mathlib.Core.List.{List}
use native.Mathlib.Omega.{arith}
use lib.Dec.{ltb}
use lib.ListN.{length, take}
use lib.Seq.{take-length}
use borrow.Author.Tests.{eq-eqb, ne_eqb, lt-ltb, ltb-true}
use Rattle.sheet.specs.Sheet.{most_rounds, longest}
use Rattle.reply.specs.Reply.{numbered, of_refusal}
use Rattle.tally.specs.Verdict.{verdict_by}
use Rattle.selection.specs.Choice.{fourth, reply}
use Rattle.report.specs.Report.{sheet_words, random_words, refused_line, text_of, report, WholeTheorem}
use Rattle.report.proofs.Decoding.{length_words}
use Rattle.report.proofs.Reports.{text_refused}

long_refused : (sheet ws : List ℕ) → longest < length sheet → reply fourth sheet ws 0 (2 * most_rounds) ≡ of_refusal (numbered 1 (length sheet))
unfolding reply verdict_by
long_refused sheet ws l = rw (lt-ltb longest (length sheet) l, ne_eqb (length sheet) 0 (omega arith))

pub whole : WholeTheorem
unfolding report
whole sheet words h = rw (eq-eqb (length sheet % 4) 0 h) (go (ltb longest (length sheet / 4)) refl)
  where
    go : (u : Bool) → ltb longest (length sheet / 4) ≡ u
        → cond u (refused_line (numbered 1 (length sheet / 4))) (text_of (sheet_words (take (length sheet) sheet)) (random_words words)) ≡ text_of (sheet_words sheet) (random_words words)
    go true q =
        let n = length_words 4 sheet in
        let r = long_refused (sheet_words sheet) (random_words words) (rw n (ltb-true _ _ q)) in
        sym (rw n at (text_refused (sheet_words sheet) (random_words words) (sym r) (omega arith)))
    go false q = rw (take-length sheet)
