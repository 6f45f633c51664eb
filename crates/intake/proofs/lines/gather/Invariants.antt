-- `intake::gather` meets its contract: the slots are those of the lines so far, and the lines left decide. Assumes nothing.
use lib.ListN.{length}
use Rattle.intake.proofs.Measures.{LinesKept}
use Rattle.intake.proofs.lines.gather.Given as goal

abbrev pub invariant-loop-rest : goal.invariant-loop-rest
invariant-loop-rest l = LinesKept l.text l.numbers l.measures l.rest l.i

abbrev pub decreases-loop-rest : goal.decreases-loop-rest
decreases-loop-rest l = length l.rest
