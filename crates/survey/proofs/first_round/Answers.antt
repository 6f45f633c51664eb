-- `survey::first_round` meets its contract: what the chain finds in the table without round 0 is the first round that passes. Assumes nothing.
use mathlib.Core.Path.{◌≡◌, refl, ap, ◌∙◌}
use Rattle.std.proofs.Common.{rules, position, drop, option_map}
use Rattle.std.proofs.lemmas.Iterator.{YieldsList-from_slice}
use Rattle.std.proofs.lemmas.Iterator.Adapters.{YieldsList-from_skip}
use Rattle.std.proofs.lemmas.Iterator.Search.{position_from_yields_List}
use Prim.Native.Nat.{◌+◌}
use Rattle.survey.proofs.Searches.{found}
use Rattle.survey.proofs.first_round.Goals as goal

pub returns : goal.returns
returns g c = λ p h d.
    let k : c.position.result ≡ position p (drop 1 c.args.table.now) =
    position_from_yields_List p c.position.new.self c.args.test c.position.result c.position.ensures.ran (YieldsList-from_skip 1 (YieldsList-from_slice c.args.table.now (cc)) c.skip.ensures.count)
    (λ x b q k. (
      g.met.F.Fn.1.step_stays c.args.test (x, tt) b q (record { met = k.met }),
      h x.now b (record { shown = x; shows = refl; says = record { met = (g.met.F.FnMut.1.post_iff c.args.test (x, tt) b).1 (q, record { met = k.met }) } }),
    )) in
    let m : c.map.result ≡ option_map (λ i. i + 1) c.position.result = search rules in
    m ∙ ap (option_map (λ i. i + 1)) k ∙ found p d _ c.args.table.now c.type_inv.table (λ r l. refl)
