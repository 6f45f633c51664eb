use Rattle.std.proofs.Common.{rules, ◌∙◌}
use Rattle.report.proofs.Decoding.{word_4}
use Rattle.report.proofs.words.U32Word4.from_bytes.Goals as goal

pub returns : goal.returns
returns c = c.from_le_bytes.ensures ∙ word_4 c.args.bytes (search rules)
