use Rattle.std.proofs.Common.{arith}
use Rattle.intake.proofs.Renewing.{putting_none, putting_room, putting_kept, putting_turn, putting_end}
use Rattle.intake.proofs.put.Goals as goal
use Rattle.intake.proofs.put.Goals.{in-Some, in_default}

pub loop-measure-init : goal.loop-measure-init
loop-measure-init c = putting_none c.requires.legible c.requires.measures_len

pub marks-held-requires : goal.marks-held-requires
marks-held-requires c = putting_room c.loop-measure.invariant c.loop-measure-test.true

pub bounds-words-i : goal.bounds-words-i
bounds-words-i c = omega (arith, putting_room c.loop-measure.invariant c.loop-measure-test.true)

pub bounds-words-i-in-Some : goal.bounds-words-i-in-Some
bounds-words-i-in-Some c = omega (arith, putting_room c.loop-measure.invariant c.loop-measure-test.true)

pub loop-measure-preserved : goal.loop-measure-preserved
loop-measure-preserved c =
    elim c.match-measure.branch [
      | in-Some w ↦ rw w.words-is (putting_turn c.loop-measure.invariant c.loop-measure-test.true w.in-Some.is c.marks-held.ensures w.renew.ensures)
      | in_default w ↦ rw w.words-is (putting_kept c.loop-measure.invariant c.loop-measure-test.true w.in_default.is c.marks-held.ensures)
    ]

pub returns : goal.returns
returns c = putting_end c.loop-measure.invariant c.loop-measure-test.false
