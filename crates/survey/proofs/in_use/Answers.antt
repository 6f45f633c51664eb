-- `survey::in_use` meets its contract: the entries that are counted are those of the rounds. Assumes nothing.
use mathlib.Core.Path.{◌∙◌}
use lib.Dec.{ltb}
use lib.ListN.{drop}
use Rattle.std.proofs.Common.{rules}
use Rattle.std.proofs.lemmas.Iterator.{YieldsList-from_slice}
use Rattle.std.proofs.lemmas.Iterator.Adapters.{YieldsList-from_skip}
use Rattle.std.proofs.lemmas.Iterator.Consumers.{YieldsList-from_filter, count_from_yields_List}
use Rattle.std.proofs.lemmas.List.Sums.{length-filter}
use Rattle.survey.proofs.Searches.{counted}
use Rattle.survey.proofs.in_use.Goals as goal

pub returns-clause-rounds : goal.returns-clause-rounds
returns-clause-rounds c = λ d.
    count_from_yields_List c.filter.result c.count.result c.count.ensures.ran
    (YieldsList-from_filter _ (λ n. ltb 0 n.lifts) (YieldsList-from_skip 1 (YieldsList-from_slice c.args.table.now cc) cc) c.filter.ensures.closure (λ x r q k. search rules))
    ∙ length-filter (λ n. ltb 0 n.lifts) (drop 1 c.args.table.now)
    ∙ counted (λ n. ltb 0 n.lifts) d c.args.table.now c.told-table
