-- The reply of the call that also writes next quarter's sheet, and what it leaves in both outputs.
use Rattle.std.specs.Prelude.{ℕ, cond, List, ltb, length}
use Rattle.sheet.specs.Sheet.{Lift, lifts}
use Rattle.reply.specs.Reply.{numbered, of_refusal, onto, unless_refused}
use Rattle.reply.specs.declared.Reply.{Reply}
use Rattle.tally.specs.Verdict.{verdict, of_verdict}
use Rattle.selection.specs.Choice.{fourth, Panel, chosen, short, panel, of_panel, unless_lacking, written_panel}
use Rattle.carry.specs.Next.{next_sheet, words_needed}

-- "17 when the lent sheet has too few words; place the words needed, after 12 and before 13."
abbrev pub of_lent_next : List Lift → ℕ → List ℕ → (start room space : ℕ) → Reply
of_lent_next ls rounds ws start room space =
    unless_lacking rounds (length ws) start room
    (cond (ltb space (words_needed ls rounds)) (of_refusal (numbered 17 (words_needed ls rounds))) (of_panel start (panel fourth ls ws start)))

-- the reply to a sheet, random words, a start position, an output of `room` words and a lent sheet of `space` words
unfoldable pub reply_next : List ℕ → List ℕ → (start room space : ℕ) → Reply
reply_next sheet ws start room space = of_verdict (verdict sheet) (λ rounds. of_lent_next (lifts sheet) rounds ws start room space)

-- the output after the call
unfoldable pub output_next : List ℕ → List ℕ → ℕ → List ℕ → ℕ → List ℕ
output_next sheet ws start out space = unless_refused (reply_next sheet ws start (length out) space) out (written_panel (panel fourth (lifts sheet) ws start) out)

-- the next sheet of a panel, written to a lent one
abbrev pub carried_to : Panel → List Lift → List ℕ → List ℕ
carried_to (chosen cs n) ls next = onto (next_sheet cs ls) next
carried_to (short r) ls next = next

-- the lent sheet after the call
unfoldable pub lent_sheet : List ℕ → List ℕ → (start room : ℕ) → List ℕ → List ℕ
lent_sheet sheet ws start room next =
    unless_refused (reply_next sheet ws start room (length next)) next (carried_to (panel fourth (lifts sheet) ws start) (lifts sheet) next)
