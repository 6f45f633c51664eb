-- What is written, and behind it the lines of the pairs that are left, is the whole.
use mathlib.Core.List.{◌++◌, flat_map}
use Rattle.std.proofs.Common.{◌≡◌, drop}
use Rattle.report.specs.Report.{pair_line, pair_lines}
use Rattle.report.proofs.text.Text.push_lines.Given as goal

abbrev pub invariant-loop-first : goal.invariant-loop-first
invariant-loop-first l = l.self ++ flat_map pair_line (drop l.first-index l.first-items) ≡ l.initial.self ++ pair_lines l.pairs
