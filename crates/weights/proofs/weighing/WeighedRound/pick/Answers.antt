use mathlib.Core.Path.{◌∙◌}
use Rattle.weights.proofs.Blocks.{block_start, block_end, block_short, own_room, next_fits, block_turn, block_here, block_fits}
use Rattle.weights.proofs.weighing.WeighedRound.pick.Goals as goal

pub loop-rows-init : goal.loop-rows-init
loop-rows-init c = record {
  size = rw c.into_iter-rows-iterator.ensures.into_iter_gives c.chunks-rows-items.ensures.size;
  sought = block_start c.args.self.now.rows.now (rw c.into_iter-rows-iterator.ensures.into_iter_gives c.chunks-rows-items.ensures.rest) c.args.self.now.fits;
}

pub invariant_of-block : goal.invariant_of-block
invariant_of-block c =
    let t = c.in-Some.ensures.steps in
    record { fits = own_room _ _ t.1.0 c.loop-rows.invariant.size t.1.1 c.loop-rows.invariant.sought }

pub pick_lent-requires : goal.pick_lent-requires
pick_lent-requires c =
    let t = c.in-Some.ensures.steps in
    block_short _ _ t.1.0 c.loop-rows.invariant.size t.1.1

pub overflow_add-result : goal.overflow_add-result
overflow_add-result c =
    let t = c.in-Some.ensures.steps in
    search (block_fits _ _ t.1.0 c.loop-rows.invariant.size t.1.1 c.loop-rows.invariant.sought c.growth_sum-w.ensures c.if-left-w.true c.pick_lent.ensures)

pub returns-then-left-w : goal.returns-then-left-w
returns-then-left-w c =
    let t = c.in-Some.ensures.steps in
    block_here _ _ t.1.0 c.loop-rows.invariant.size t.1.1 c.loop-rows.invariant.sought c.growth_sum-w.ensures c.if-left-w.true c.pick_lent.ensures

pub overflow_add-start : goal.overflow_add-start
overflow_add-start c =
    let t = c.in-Some.ensures.steps in
    search (next_fits _ _ t.1.0 c.loop-rows.invariant.size t.1.1 c.loop-rows.invariant.sought c.count-start.ensures)

pub loop-rows-preserved : goal.loop-rows-preserved
loop-rows-preserved c =
    let t = c.in-Some.ensures.steps in
    record {
      size = t.0 ∙ c.loop-rows.invariant.size;
      sought = block_turn _ _ t.1.0 c.loop-rows.invariant.size t.1.1 c.loop-rows.invariant.sought c.growth_sum-w.ensures c.count-start.ensures c.if-left-w.false;
    }

pub returns : goal.returns
returns c = block_end _ c.in-None.ensures.steps.1.0 c.loop-rows.invariant.sought
