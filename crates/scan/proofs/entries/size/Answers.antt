-- `scan::size` meets its contract: the end word counts the lifts. Assumes nothing.
use native.Mathlib.Omega.{arith}
use mathlib.Core.Path.{◌∙◌}
use Rattle.sheet.proofs.Walks.{between_none, inside, end_counts}
use Rattle.scan.proofs.entries.size.Goals as goal

pub overflow_sub-words : goal.overflow_sub-words
overflow_sub-words c = omega (arith, inside (between_none c.args.sheet.legible))

pub bounds-words-words : goal.bounds-words-words
bounds-words-words c = omega (arith, inside (between_none c.args.sheet.legible))

pub returns : goal.returns
returns c = c.payload.ensures ∙ end_counts c.args.sheet.legible
