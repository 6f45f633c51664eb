-- `intake::put` meets its contract: the words so far and those of the lifts left are the result. Assumes nothing.
use Rattle.intake.proofs.Renewing.{Putting}
use Rattle.intake.proofs.put.Given as goal

abbrev pub invariant-loop-measure : goal.invariant-loop-measure
invariant-loop-measure l = Putting l.fn.words l.measures l.words l.i l.measure-index
