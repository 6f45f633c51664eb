-- `scan::lifts` meets its contract: all lifts of a legible sheet are left. Assumes nothing.
use Rattle.sheet.proofs.Walks.{all_left}
use Rattle.scan.proofs.entries.lifts.Goals as goal

pub invariant_of-result : goal.invariant_of-result
invariant_of-result c = all_left c.args.sheet.legible
