-- `panel::write_pairs`: the pairs of the rounds before this one are written, and what lay behind them is as it was.
use Rattle.panel.proofs.Pairs.{PairsWritten}
use Rattle.panel.proofs.output.write_pairs.Given as goal

abbrev pub invariant-loop-round : goal.invariant-loop-round
invariant-loop-round l = PairsWritten l.picks l.initial.out l.out l.start l.round
