use Rattle.std.proofs.Common.{rules, ◌∙◌}
use Rattle.report.proofs.Decoding.{word_8}
use Rattle.report.proofs.words.U64Word8.from_bytes.Goals as goal

pub returns : goal.returns
returns c = c.from_le_bytes.ensures ∙ word_8 c.args.bytes (search rules)
