-- `weights::Sums::of` meets its contract: by how many donors there are. Assumes nothing.
use native.Mathlib.Omega.{arith}
use Rattle.weights.proofs.Scales.{whole_room, summed}
use Rattle.weights.proofs.Sums.of.Goals as goal

pub invariant_of-whole : goal.invariant_of-whole
invariant_of-whole c = record { fits = whole_room c.requires.1 }

pub returns-in-None : goal.returns-in-None
returns-in-None c = rw c.in-None.is (summed _ _ c.growth_sum-new.ensures (λ l. absurd (omega arith)) (λ l. absurd (omega arith)))

pub returns-in-One : goal.returns-in-One
returns-in-One c = rw c.in-One.is (summed _ _ c.growth_sum-new.ensures (λ _. c.donated.ensures) (λ l. absurd (omega arith)))

pub returns-in-Two : goal.returns-in-Two
returns-in-Two c = summed _ _ c.growth_sum-new.ensures (λ _. c.donated-in-Two.ensures) (λ _. c.donated-in-Two-2.ensures)
