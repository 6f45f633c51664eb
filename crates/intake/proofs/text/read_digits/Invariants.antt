-- `intake::read_digits` meets its contract: what is left of the digits gives the number, and what is behind them. Assumes nothing.
use lib.ListN.{length}
use Rattle.intake.proofs.Numbers.{DigitsRead}
use Rattle.intake.proofs.text.read_digits.Given as goal

abbrev pub invariant-loop-rest : goal.invariant-loop-rest
invariant-loop-rest l = DigitsRead l.text l.value l.rest

abbrev pub decreases-loop-rest : goal.decreases-loop-rest
decreases-loop-rest l = length l.rest
