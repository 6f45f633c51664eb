-- `panel::write_pairs` meets its contract: where a round has a choice there is room for its pair. Assumes nothing.
use native.Mathlib.Omega.{arith}
use Prim.Native.Nat.{◌<◌}
use mathlib.Core.Path.{refl}
use lib.ListN.{length}
use Rattle.panel.proofs.Pairs.{written_skip, room, written_turn, written_end}
use Rattle.panel.proofs.output.write_pairs.Goals as goal
use Rattle.panel.proofs.output.write_pairs.Goals.{in-Some, in_default}

pub slice_bounds-write_pair-end : goal.slice_bounds-write_pair-end
slice_bounds-write_pair-end c = room c.loop-round.invariant (omega (arith, c.loop-round-test.true, c.told-picks)) c.requires.few c.in-Some.is

pub loop-round-preserved : goal.loop-round-preserved
loop-round-preserved c =
    let w = c.loop-round.invariant in
    let h : c.loop-round.round < length c.args.picks.now = omega (arith, c.loop-round-test.true, c.told-picks) in
    elim c.match-pick.branch [
      | in-Some t ↦ rw (t.out-is, t.start-is) (written_turn w h c.requires.few t.in-Some.is t.write_pair.ensures refl)
      | in_default t ↦ rw (t.out-is, t.start-is) (written_skip w h t.in_default.is)
    ]

pub returns : goal.returns
returns c = written_end (omega (arith, c.loop-round-test.false, c.told-picks)) c.loop-round.invariant
