-- `panel::choose` meets its contract: demand 3 is `fair`, of Keyfitz's update. Assumes nothing.
use Rattle.round.specs.Choice.{keyfitz}
use Rattle.round.proofs.Keyfitz.{keyfitz_exact, keyfitz_staying}
use Rattle.sheet.specs.Sheet.{lifts}
use Rattle.tally.proofs.Verdicts.{fit}
use Rattle.selection.proofs.Fair.{fair}
use Rattle.panel.proofs.choose.Goals as goal

pub returns-clause-fair : goal.returns-clause-fair
returns-clause-fair c = λ f. fair keyfitz keyfitz_exact keyfitz_staying (lifts c.args.sheet.now) (fit f)
