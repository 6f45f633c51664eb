use Rattle.intake.proofs.Numbers.{reading_turn, reading_end}
use Rattle.std.proofs.Common.{rules}
use Rattle.intake.proofs.text.read_digits.Goals as goal
use Rattle.intake.proofs.text.read_digits.Goals.{in_default, in_default-2, in_default-3}

pub loop-rest-preserved : goal.loop-rest-preserved
loop-rest-preserved c = reading_turn _ c.loop-rest.invariant c.in-48-to-57.len_at_least (search rules) (search rules) c.from.ensures c.min-value.ensures

pub returns-clause-value : goal.returns-clause-value
returns-clause-value c = (reading_end _ c.loop-rest.invariant (λ l h k. elim c.if-rest-lt1.branch [ in_default w ↦ search rules | in_default-2 w ↦ search rules | in_default-3 w ↦ search rules ])).0

pub returns-clause-behind : goal.returns-clause-behind
returns-clause-behind c = (reading_end _ c.loop-rest.invariant (λ l h k. elim c.if-rest-lt1.branch [ in_default w ↦ search rules | in_default-2 w ↦ search rules | in_default-3 w ↦ search rules ])).1
