-- `picks::select_rounds`: the choices of the rounds before one, and the panel from it on, are the whole panel.
use Rattle.std.proofs.Common.{◌≡◌}
use Rattle.sheet.specs.Sheet.{lifts}
use Rattle.selection.specs.Choice.{by_update}
use Rattle.picks.proofs.Rounds.{Lent}
use Rattle.picks.proofs.Choosing.{Going}
use Rattle.picks.proofs.select_rounds.Given as goal

abbrev pub invariant-loop-r : goal.invariant-loop-r
invariant-loop-r g l =
    record {
      lent : Lent (lifts l.fitting.sheet.words.now) l.rows l.layout l.fitting.tallies;
      going : Going (by_update g.W.Way.update) (lifts l.fitting.sheet.words.now) l.fn.words.words.now l.fn.words.at l.picks l.words.at l.r;
      list : l.words.words ≡ l.fn.words.words;
    }
