-- The small sheets, computed.
use mathlib.Core.Path.{◌≡◌, refl}
use mathlib.Core.Bool.{true}
use Rattle.probability.specs.Table.{all_right}
use Rattle.probability.specs.Sum.{total_by}
use Rattle.sheet.specs.Sheet.{lifts, words_then}
use Rattle.sheet.specs.Reading.{fault, read_from}
use Rattle.tally.specs.Rounds.{filter_range, sends}
use Rattle.tally.specs.Verdict.{first_round, first_refusal, of_rounds, verdict_by}
use Rattle.tally.specs.Worked.{cases}

pub all_right_lem : all_right cases ≡ true
unfolding total_by lifts words_then fault read_from filter_range sends first_round first_refusal of_rounds verdict_by
all_right_lem = refl
