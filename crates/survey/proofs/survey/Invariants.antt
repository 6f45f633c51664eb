-- `survey::survey` meets its contract: the tables are those of the lifts that are not left. Assumes nothing.
use Rattle.survey.proofs.Surveys.{Surveyed}
use Rattle.survey.proofs.survey.Given as goal

abbrev pub invariant-loop-l : goal.invariant-loop-l
invariant-loop-l l = Surveyed l.sheet.words.now l.tables l.l-iterator
