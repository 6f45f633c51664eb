-- `carry::write` meets its contract: the words written and those of the lifts left are the whole sheet. Assumes nothing.
use Rattle.sheet.specs.Sheet.{lifts}
use Rattle.carry.specs.Next.{in_table}
use Rattle.carry.proofs.Writing.{Writing}
use Rattle.carry.proofs.write.Given as goal

abbrev pub invariant-loop-l : goal.invariant-loop-l
invariant-loop-l l = Writing (in_table l.chosen) (lifts l.sheet.words.now) l.l-iterator l.initial.next l.next l.at
