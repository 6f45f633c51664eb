use Rattle.std.proofs.Common.{arith}
use Rattle.draw.specs.Draw.{largest}
use Rattle.draw.proofs.Draws.{ended, found}
use Rattle.draw.proofs.Exactly.{exactly}
use Rattle.draw.proofs.Reader.draw.Goals as goal

pub returns-in_err-rest-clause-value : goal.returns-in_err-rest-clause-value
returns-in_err-rest-clause-value c = rw c.from_residual.ensures (ended largest c.args.bound _ _ (grind (arith, c.in_err-rest.ensures.lookup)))

pub returns-in_err-rest-clause-exact : goal.returns-in_err-rest-clause-exact
returns-in_err-rest-clause-exact c = exactly largest _

pub returns-in_err-passed-clause-value : goal.returns-in_err-passed-clause-value
returns-in_err-passed-clause-value c =
    rw c.from_residual-in_err-passed.ensures (found largest c.args.bound _ _ c.in_ok-rest.ensures.lookup.0.2 c.first_below.ensures.place c.in_err-passed.was)

pub returns-in_err-passed-clause-exact : goal.returns-in_err-passed-clause-exact
returns-in_err-passed-clause-exact c = exactly largest _

pub returns-clause-value : goal.returns-clause-value
returns-clause-value c =
    found largest c.args.bound _ _ c.in_ok-rest.ensures.lookup.0.2 c.first_below.ensures.place c.in_ok-passed.was

pub returns-clause-exact : goal.returns-clause-exact
returns-clause-exact c = exactly largest _
