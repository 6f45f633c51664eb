-- `procedure::draw_between` meets its contract: by the cases of the draw. Assumes nothing.
use Prim.Native.Nat.{ℕ}
use mathlib.Core.Bool.{cond}
use lib.Dec.{ltb}
use borrow.Author.Tests.{lt-ltb, le-ltb}
use Rattle.probability.specs.Plan.{Plan, done}
use Rattle.draw.specs.Run.{run}
use Rattle.procedure.proofs.Answers.{on_value, on_end}
use Rattle.procedure.proofs.draw_between.Goals as goal

-- what follows the draw v
abbrev by_odds : (odds i j v : ℕ) → Plan ℕ
by_odds odds i j v = cond (ltb v odds) (done i) (done j)

pub returns-in_err-v-clause-value : goal.returns-in_err-v-clause-value
returns-in_err-v-clause-value c = rw c.from_residual.ensures (on_end _ _ _ _ _ _ c.draw.ensures.value c.in_err-v.was)

pub returns-then-v-s-clause-value : goal.returns-then-v-s-clause-value
unfolding run
returns-then-v-s-clause-value c = let a = c.args in
    rw (lt-ltb _ _ c.if-v-s.true) at (on_value _ _ _ _ _ (by_odds a.s.odds a.i a.j) c.draw.ensures.value c.in_ok-v.was)

pub returns-else-v-s-clause-value : goal.returns-else-v-s-clause-value
unfolding run
returns-else-v-s-clause-value c = let a = c.args in
    rw (le-ltb _ _ c.if-v-s.false) at (on_value _ _ _ _ _ (by_odds a.s.odds a.i a.j) c.draw.ensures.value c.in_ok-v.was)
