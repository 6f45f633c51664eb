-- `report::chosen_text` meets its contract: the files are decoded, and what `choose` ensures gives the text.
use mathlib.Core.Path.{refl, sym, ◌∙◌}
use lib.Seq.{length-take-le}
use native.Mathlib.Omega.{arith}
use borrow.Author.Rules.{rules}
use Rattle.report.specs.Report.{sheet_words, random_words}
use Rattle.report.proofs.Decoding.{sheet_decoded, random_decoded, random_le}
use Rattle.report.proofs.Reports.{Chosen, text_chosen, text_refusal}
use Rattle.report.proofs.chosen_text.Goals as goal
use Rattle.report.proofs.chosen_text.Goals.{In-Ok}

-- the choices and the output words give the text
chosen : (c : In-Ok) → Chosen (sheet_words c.args.sheet.now) (random_words c.args.words.now) c.in-Ok.done.many c.in-Ok.done.words c.choose.new.out
chosen c =
    let e = c.in-Ok.ensures in
    let s = c.decode-sheet.ensures ∙ sheet_decoded c.args.sheet.now c.requires in
    let w = c.decode-words.ensures ∙ random_decoded c.args.words.now in
    text_chosen _ _ _ (sym (rw (s, w) at e.replied)) (random_le c.args.words.now) refl (search rules) (rw (s, w) at e.written)

pub overflow_mul-out : goal.overflow_mul-out
overflow_mul-out c = omega (arith, (chosen (goal.at.overflow_mul-out c).In-Ok).inside)

pub slice_bounds-out-end : goal.slice_bounds-out-end
slice_bounds-out-end c = (chosen (goal.at.slice_bounds-out-end c).In-Ok).inside

pub slice_bounds-chosen-end : goal.slice_bounds-chosen-end
slice_bounds-chosen-end c = sym (length-take-le _ _ (chosen (goal.at.slice_bounds-chosen-end c).In-Ok).inside)

pub chosen-requires : goal.chosen-requires
chosen-requires c = (chosen (goal.at.chosen-requires c).In-Ok).room

pub returns-in-Ok : goal.returns-in-Ok
returns-in-Ok c = c.chosen.ensures ∙ (chosen (goal.at.returns-in-Ok c).In-Ok).is

pub returns-in-Err : goal.returns-in-Err
returns-in-Err c =
    let s = c.decode-sheet.ensures ∙ sheet_decoded c.args.sheet.now c.requires in
    let w = c.decode-words.ensures ∙ random_decoded c.args.words.now in
    c.refused.ensures ∙ text_refusal _ _ c.in-Err.refusal (rw (s, w) at c.in-Err.ensures.replied)
