use Prim.Native.Nat.{◌≤◌}
use native.Mathlib.Omega.{arith}
use Rattle.scan.specs.Scan.{state_of}
use Rattle.scan.proofs.Readings.{one_more, goes_on_three}
use Rattle.scan.proofs.reading.pass_lifts.Goals as goal

pub loop-rest-preserved : goal.loop-rest-preserved
loop-rest-preserved c =
    let n : c.loop-rest.s.lifts ≤ c.loop-rest.s.lifts = omega arith in
    let m = one_more (state_of c.next-in-len3-up.result) _ c.next-s.ensures (one_more (state_of c.next.result) _ c.next-in-len3-up.ensures (one_more (state_of c.loop-rest.s) _ c.next.ensures n)) in
    record {
      few = grind (arith, m, c.in-len3-up.len_at_least, c.loop-rest.invariant.few);
      shorter = grind (arith, c.in-len3-up.len_at_least, c.loop-rest.invariant.shorter);
      kept = λ ws k. goes_on_three c.in-len3-up.len_at_least (c.loop-rest.invariant.kept ws k) (c.is_sound_lift.ensures c.if-not-is_sound_lift.false) c.next.ensures c.next-in-len3-up.ensures c.next-s.ensures;
    }
