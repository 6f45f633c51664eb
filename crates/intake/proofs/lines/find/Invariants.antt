-- `intake::find` meets its contract: the part that may have the number is halved. Assumes nothing.
use Rattle.intake.proofs.Finding.{Narrowed}
use Rattle.intake.proofs.lines.find.Given as goal

abbrev pub invariant-loop-size : goal.invariant-loop-size
invariant-loop-size l = Narrowed l.numbers l.n l.low l.size

abbrev pub decreases-loop-size : goal.decreases-loop-size
decreases-loop-size l = l.size
