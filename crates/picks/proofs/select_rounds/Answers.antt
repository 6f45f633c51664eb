-- `picks::select_rounds` meets its contract: one law for each step of a round. Assumes nothing.
use native.Mathlib.Omega.{arith}
use mathlib.Core.Path.{refl, ap, ◌∙◌}
use Rattle.tally.proofs.Verdicts.{fit}
use Rattle.picks.proofs.Rounds.{rises, few, part_end, filled, empty, named, sums_are, callable}
use Rattle.picks.proofs.Choosing.{going_none, going_end, idle, on_none, on_some, stopped}
use Rattle.picks.proofs.select_rounds.Goals as goal
use Rattle.picks.proofs.select_rounds.Goals.{then-not-is_empty+in-Some, else-not-is_empty}

pub loop-r-init : goal.loop-r-init
loop-r-init g c =
    let p = c.args.fitting.now in
    record { lent = record { fit = fit p.fitting; long = omega (arith, c.lay_out-layout.auto.rows, c.requires); laid = c.lay_out-layout.ensures; tabled = p.tabled }; going = going_none _ _ _ _; list = refl }

pub overflow_mul-part : goal.overflow_mul-part
overflow_mul-part g c = let d = c.loop-r.invariant.lent in omega (arith, rises d c.loop-r.auto.r (omega (arith, c.loop-r-test.true)), few d c.loop-r.auto.r (omega (arith, c.loop-r-test.true)))

pub overflow_mul-part-in-loop-r : goal.overflow_mul-part-in-loop-r
overflow_mul-part-in-loop-r g c = let d = c.loop-r.invariant.lent in omega (arith, few d c.loop-r.auto.r (omega (arith, c.loop-r-test.true)))

pub offset_bounds-rows-laid : goal.offset_bounds-rows-laid
offset_bounds-rows-laid g c = let d = c.loop-r.invariant.lent in omega (arith, rises d c.loop-r.auto.r (omega (arith, c.loop-r-test.true)), few d c.loop-r.auto.r (omega (arith, c.loop-r-test.true)))

pub slice_bounds-part-count : goal.slice_bounds-part-count
slice_bounds-part-count g c = let d = c.loop-r.invariant.lent in omega (arith, rises d c.loop-r.auto.r (omega (arith, c.loop-r-test.true)))

pub slice_bounds-part-start : goal.slice_bounds-part-start
slice_bounds-part-start g c = let d = c.loop-r.invariant.lent in omega (arith, rises d c.loop-r.auto.r (omega (arith, c.loop-r-test.true)))

pub slice_bounds-part-end : goal.slice_bounds-part-end
slice_bounds-part-end g c = let d = c.loop-r.invariant.lent in omega (arith, part_end d c.loop-r.auto.r (omega (arith, c.loop-r-test.true)))

pub donors_of-requires-clause-first_named : goal.donors_of-requires-clause-first_named
donors_of-requires-clause-first_named g c = (named c.loop-r.invariant.lent c.loop-r.auto.r (omega (arith, c.loop-r-test.true))).0

pub donors_of-requires-clause-second_named : goal.donors_of-requires-clause-second_named
donors_of-requires-clause-second_named g c = (named c.loop-r.invariant.lent c.loop-r.auto.r (omega (arith, c.loop-r-test.true))).1

pub held_of-requires-clause-first_named : goal.held_of-requires-clause-first_named
held_of-requires-clause-first_named g c = (named c.loop-r.invariant.lent c.loop-r.auto.r (omega (arith, c.loop-r-test.true))).0

pub held_of-requires-clause-second_named : goal.held_of-requires-clause-second_named
held_of-requires-clause-second_named g c = (named c.loop-r.invariant.lent c.loop-r.auto.r (omega (arith, c.loop-r-test.true))).1

pub invariant_of-round : goal.invariant_of-round
invariant_of-round g c =
    let d = c.loop-r.invariant.lent in
    record {
      callable = callable d c.loop-r.auto.r (omega (arith, c.loop-r-test.true)) c.donors_of.ensures c.held_of.ensures (filled c.is_empty.ensures c.if-not-is_empty.true);
      has_sums = sums_are d c.loop-r.auto.r (omega (arith, c.loop-r-test.true)) c.donors_of.result c.sums_of.ensures;
    }

pub returns-in_default-clause-picked : goal.returns-in_default-clause-picked
returns-in_default-clause-picked g c = let l = c.loop-r.invariant in
    (stopped (on_none _ l.lent l.going c.loop-r.auto.r (omega (arith, c.loop-r-test.true)) (filled c.is_empty.ensures c.if-not-is_empty.true) c.held_of.result c.donors_of.ensures c.held_of.ensures (ap (λ x. x.now) l.list) _ c.choose_lift.ensures.value c.in_default.is) c.loop-r.auto.r 0).0

pub returns-in_default-clause-behind : goal.returns-in_default-clause-behind
returns-in_default-clause-behind g c = let l = c.loop-r.invariant in
    (stopped (on_none _ l.lent l.going c.loop-r.auto.r (omega (arith, c.loop-r-test.true)) (filled c.is_empty.ensures c.if-not-is_empty.true) c.held_of.result c.donors_of.ensures c.held_of.ensures (ap (λ x. x.now) l.list) _ c.choose_lift.ensures.value c.in_default.is) c.loop-r.auto.r c.choose_lift.new.words.at).1

pub loop-r-preserved : goal.loop-r-preserved
loop-r-preserved g c =
    let l = c.loop-r.invariant in
    let low = c.loop-r.auto.r in
    elim c.if-not-is_empty.branch [
      | then-not-is_empty+in-Some w ↦
          record {
            lent = l.lent;
            going = rw (w.words-is, w.picks-is) (on_some _ l.lent l.going low (omega (arith, c.loop-r-test.true)) (filled c.is_empty.ensures w.if-not-is_empty.true) w.held_of.result w.donors_of.ensures w.held_of.ensures (ap (λ x. x.now) l.list) _ w.choose_lift.ensures.value w.in-Some.is);
            list = rw w.words-is (w.choose_lift.ensures.list ∙ l.list);
          }
      | else-not-is_empty w ↦
          record {
            lent = l.lent;
            going = rw (w.words-is, w.picks-is) (idle _ l.lent l.going low (omega (arith, c.loop-r-test.true)) (empty c.is_empty.ensures w.if-not-is_empty.false));
            list = rw w.words-is l.list;
          }
    ]

pub returns-clause-picked : goal.returns-clause-picked
returns-clause-picked g c = (going_end c.loop-r.invariant.going (omega (arith, c.loop-r-test.false))).0

pub returns-clause-behind : goal.returns-clause-behind
returns-clause-behind g c = (going_end c.loop-r.invariant.going (omega (arith, c.loop-r-test.false))).1
