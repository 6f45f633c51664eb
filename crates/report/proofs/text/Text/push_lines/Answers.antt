use mathlib.Core.Path.{◌≡◌, ap, ◌∙◌}
use Prim.Native.Nat.{◌+◌}
use mathlib.Core.List.{◌++◌, append_assoc, append-nil, flat_map}
use native.Mathlib.Omega.{arith}
use lib.ListN.{length, length-append, drop}
use Rattle.report.specs.Report.{choice_line, pair_line}
use Rattle.report.proofs.Pairs.{chunk_lines, next_line, no_line}
use Rattle.report.proofs.text.Text.push_lines.Goals as goal
use Rattle.report.proofs.text.Text.push_lines.Goals.{After-measure-outcome}

-- what is left is the line of this pair and what is left behind it
line : (c : After-measure-outcome)
    → flat_map pair_line (drop c.loop-first.first-index c.as_chunks.result.0.now)
    ≡ choice_line c.round-round.result c.from-number.result c.measure-outcome.result
    ++ flat_map pair_line (drop (c.loop-first.first-index + 1) c.as_chunks.result.0.now)
line c = next_line _ _ _ c.loop-first-test.true c.round-round.ensures (c.from-number.ensures ∙ c.payload.ensures) c.measure-outcome.ensures

pub loop-first-init : goal.loop-first-init
loop-first-init c = ap (λ l. c.args.self.now ++ l) (ap (flat_map pair_line) c.as_chunks.ensures.front ∙ chunk_lines c.args.pairs.now)

pub push_line-requires : goal.push_line-requires
push_line-requires c =
    let e = rw (line (goal.at.push_line-requires c).After-measure-outcome) at c.loop-first.invariant in
    omega (arith, simp length-append at (ap length e), c.requires)

pub loop-first-preserved : goal.loop-first-preserved
loop-first-preserved c = rw (c.push_line.ensures, append_assoc, ← line (goal.at.loop-first-preserved c).After-measure-outcome) c.loop-first.invariant

pub returns : goal.returns
returns c = rw (no_line _ _ c.loop-first-test.false, append-nil) at c.loop-first.invariant
