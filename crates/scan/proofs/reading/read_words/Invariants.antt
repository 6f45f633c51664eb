-- `scan::read_words` meets its contract: what is left to read gives the answer, and there are no more lifts than words. Assumes nothing.
use lib.ListN.{length}
use Rattle.scan.specs.Scan.{state_of, Kept}
use Rattle.scan.proofs.reading.read_words.Given as goal

abbrev pub invariant-loop-rest : goal.invariant-loop-rest
invariant-loop-rest l = Kept l.sheet (state_of l.s) l.rest

abbrev pub decreases-loop-rest : goal.decreases-loop-rest
decreases-loop-rest l = length l.rest
