-- `weights::Sums::scaling` meets its contract: by how many donors there are. Assumes nothing.
use Rattle.weights.proofs.Scales.{scale_none, scale_one, scale_two}
use Rattle.weights.proofs.Sums.scaling.Goals as goal

pub returns-in-None : goal.returns-in-None
returns-in-None c ls u = let d = c.default.ensures in rw c.in-None.is (scale_none ls d.0 d.1.0 d.1.1.0 d.1.1.1)

pub returns-in-One : goal.returns-in-One
returns-in-One c ls u = let d = c.default-in-One.ensures in rw c.in-One.is (scale_one c.args.self (rw c.in-One.is at u) d.1.1.0 d.1.1.1)

pub returns-in-Two : goal.returns-in-Two
returns-in-Two c ls u = rw c.in-Two.is (scale_two c.args.self (rw c.in-Two.is at u))
