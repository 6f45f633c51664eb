-- `intake::read_number` meets its contract: one law for each way out. Assumes nothing.
use Rattle.intake.proofs.Numbers.{within_limit}
use Rattle.intake.proofs.text.read_number.Goals as goal

pub returns : goal.returns
returns c = within_limit c.args.limit c.args.text.now c.read_digits-value.ensures.value c.read_digits-value.ensures.behind c.requires c.if-rest-text.false c.if-limit-value.false
