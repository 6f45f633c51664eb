use Rattle.std.proofs.Common.{rules}
use Rattle.intake.proofs.Finding.{narrowed_past, narrowed_turn, narrowed_end}
use Rattle.intake.proofs.lines.find.Goals as goal
use Rattle.intake.proofs.lines.find.Goals.{then-low-half, else-low-half}

pub loop-size-preserved : goal.loop-size-preserved
loop-size-preserved c =
    elim c.if-low-half.branch [
      | then-low-half w ↦ rw w.low-is (narrowed_turn c.requires.rising c.loop-size.invariant c.loop-size-test.true w.if-low-half.true w.at_most.ensures)
      | else-low-half w ↦ rw w.low-is (narrowed_past c.requires.rising c.loop-size.invariant c.loop-size-test.true w.if-low-half.false)
    ]

pub returns-in_err-number : goal.returns-in_err-number
returns-in_err-number c = rw c.from_residual.ensures (narrowed_end c.requires.rising c.loop-size.invariant c.loop-size-test.false (λ h e. search rules))

pub returns-then-number-n : goal.returns-then-number-n
returns-then-number-n c = narrowed_end c.requires.rising c.loop-size.invariant c.loop-size-test.false (λ h e. search rules)
