-- `carry::remaining` meets its contract: the lifts of new round 0 and those that remain are all. Assumes nothing.
use native.Mathlib.Omega.{arith}
use Rattle.sheet.specs.Sheet.{lifts}
use Rattle.carry.proofs.Writing.{remaining_all}
use Rattle.carry.proofs.remaining.Goals as goal

pub overflow_sub-result : goal.overflow_sub-result
overflow_sub-result c = omega (arith, c.size.ensures, remaining_all (lifts c.args.sheet.words.now) c.requires.tabled.new)

pub returns : goal.returns
returns c = omega (arith, c.size.ensures, remaining_all (lifts c.args.sheet.words.now) c.requires.tabled.new)
