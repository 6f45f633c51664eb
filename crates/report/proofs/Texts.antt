-- Writing into a text: what tells that a piece has room and stands behind what was written. Assumes nothing.
use mathlib.Core.List.{append_assoc}
use lib.ListN.{length-append}
use Rattle.report.proofs.Decimals.{decimal_low, decimal_high, length_high}
use Rattle.report.proofs.Sizes.{length_field, length_line, length_words, length_refused}

pub ruleset writing = (append_assoc, length-append, decimal_low, decimal_high, length_high, length_field, length_line, length_words, length_refused)
