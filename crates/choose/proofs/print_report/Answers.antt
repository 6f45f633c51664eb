-- `print` is handed the text of the bytes that were kept: what `report` ensures.
use mathlib.Core.Path.{◌∙◌}
use Rattle.choose.proofs.Prints.{printed}
use Rattle.choose.proofs.print_report.Goals as goal

pub print-requires : goal.print-requires
print-requires g c = printed c.args.sheet.now c.args.words.now c.kept_bytes.ensures.room c.kept_bytes-2.ensures.room (rw (c.kept_bytes.ensures.is, c.kept_bytes-2.ensures.is) at (c.as_bytes.ensures.is ∙ c.report-text.ensures))
