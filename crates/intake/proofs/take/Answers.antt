-- `intake::take` meets its contract: one law for each way out: a refusal of the words of the sheet lent, of a line, of the result, and the result. Assumes nothing.
use mathlib.Core.Path.{sym, ap, ◌∙◌}
use mathlib.Core.List.{[]}
use lib.ListN.{replicate}
use Rattle.std.specs.Prelude.{None}
use Rattle.std.proofs.lemmas.List.{take-replicate}
use lib.Seq.{length-take-le}
use Rattle.std.proofs.lemmas.Result.{err_from_is_err_and}
use Rattle.counts.specs.Counts.{counts_verdict}
use Rattle.counts.proofs.Taken.{takes}
use Rattle.intake.proofs.Taking.{few, numbers_long, rising, at_word, at_line_lem, taken_small, at_refused, at_fits}
use Rattle.intake.proofs.take.Goals as goal

pub returns-in_err-lent : goal.returns-in_err-lent
unfolding counts_verdict
returns-in_err-lent c =
    let p = err_from_is_err_and c.from_residual.result c.from_residual.ensures.1 in
    let v = c.in_err-lent.ensures.reading in
    record { replied = rw (p.1, p.2) (at_word c.args.sheet.now [] _ _ _ v).0; written = (at_word c.args.sheet.now _ _ _ _ v).1; taken = takes _ _ }

pub slice_bounds-numbers-end : goal.slice_bounds-numbers-end
slice_bounds-numbers-end c = few c.in_ok-lent.lent.legible c.size-n.ensures

pub slice_bounds-numbers-end-2 : goal.slice_bounds-numbers-end-2
slice_bounds-numbers-end-2 c = sym (length-take-le _ _ (few c.in_ok-lent.lent.legible c.size-n.ensures))

pub slice_bounds-measures-end : goal.slice_bounds-measures-end
slice_bounds-measures-end c = few c.in_ok-lent.lent.legible c.size-n.ensures

pub slice_bounds-measures-end-2 : goal.slice_bounds-measures-end-2
slice_bounds-measures-end-2 c = sym (length-take-le _ _ (few c.in_ok-lent.lent.legible c.size-n.ensures))

pub number_lifts-requires : goal.number_lifts-requires
number_lifts-requires c = record { numbers_len = length-take-le _ _ (few c.in_ok-lent.lent.legible c.size-n.ensures) ∙ c.size-n.ensures }

pub gather-requires-clause-rising : goal.gather-requires-clause-rising
gather-requires-clause-rising c = rising c.in_ok-lent.lent.legible c.number_lifts.ensures

pub gather-requires-clause-empty : goal.gather-requires-clause-empty
gather-requires-clause-empty c =
    let long = numbers_long c.in_ok-lent.lent.legible c.number_lifts.ensures in
    take-replicate _ _ None (few c.in_ok-lent.lent.legible c.size-n.ensures) ∙ ap (λ n. replicate n None) (c.size-n.ensures ∙ sym long)

pub returns-in_err-many : goal.returns-in_err-many
unfolding counts_verdict
returns-in_err-many c =
    let p = err_from_is_err_and c.from_residual-in_err-many.result c.from_residual-in_err-many.ensures.1 in
    let same = ap (λ s. s.now) c.in_ok-lent.ensures.same in
    let l = rw same at c.in_ok-lent.lent.legible in
    let e = rw same at c.number_lifts.ensures in
    record { replied = rw (p.1, p.2) (at_line_lem l e _ [] _ _ _ c.in_err-many.ensures).0; written = (at_line_lem l e _ _ _ _ _ c.in_err-many.ensures).1; taken = takes _ _ }

pub put-requires-clause-small : goal.put-requires-clause-small
put-requires-clause-small c = taken_small c.in_ok-lent.lent.legible c.number_lifts.ensures c.args.text.now c.in_ok-many.ensures

pub returns-in_err-check : goal.returns-in_err-check
unfolding counts_verdict
returns-in_err-check c =
    let p = err_from_is_err_and c.from_residual-in_err-check.result c.from_residual-in_err-check.ensures.1 in
    let same = ap (λ s. s.now) c.in_ok-lent.ensures.same in
    let v = rw (c.put.ensures, c.copy_from_slice.ensures.after, ← same) at c.in_err-check.ensures in
    let q = rw same at (at_refused c.in_ok-lent.lent.legible c.number_lifts.ensures c.args.text.now c.in_ok-many.ensures _ v) in
    record { replied = rw (p.1, p.2) q.0; written = q.1; taken = takes _ _ }

pub returns : goal.returns
unfolding counts_verdict
returns c =
    let same = ap (λ s. s.now) c.in_ok-lent.ensures.same in
    let v = rw (c.put.ensures, c.copy_from_slice.ensures.after, ← same) at c.in_ok-check.ensures in
    let q = rw same at (at_fits c.in_ok-lent.lent.legible c.number_lifts.ensures c.args.text.now c.in_ok-many.ensures v) in
    record { replied = q.0; written = rw (c.copy_from_slice-2.ensures.after, c.put.ensures, c.copy_from_slice.ensures.after) q.1; taken = takes _ _ }
