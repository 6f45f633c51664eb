-- `intake::number_lifts` meets its contract: the numbers so far and those of the lifts left are all. Assumes nothing.
use Rattle.sheet.specs.Sheet.{lifts}
use Rattle.intake.proofs.Renewing.{Numbering}
use Rattle.intake.proofs.number_lifts.Given as goal

abbrev pub invariant-loop-k : goal.invariant-loop-k
invariant-loop-k l = Numbering (lifts l.sheet.words.now) l.numbers l.k-iterator.iter l.k-iterator.count
