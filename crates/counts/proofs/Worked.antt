-- The small sheets and texts, computed.
use mathlib.Core.Path.{◌≡◌, refl}
use mathlib.Core.Bool.{true}
use Rattle.probability.specs.Table.{all_right}
use Rattle.probability.specs.Sum.{total_by}
use Rattle.sheet.specs.Sheet.{lifts, words_then}
use Rattle.sheet.specs.Reading.{fault, read_from}
use Rattle.tally.specs.Rounds.{filter_range, sends}
use Rattle.tally.specs.Verdict.{first_round, first_refusal, of_rounds, verdict_by}
use Rattle.counts.specs.Text.{lines, before_comma, behind_comma, all_digits, value_from, count_line}
use Rattle.probability.specs.Among.{among}
use Rattle.counts.specs.Counts.{lines_from, measure_for, counts_verdict}
use Rattle.counts.specs.Worked.{line_cases, form_cases, result_cases}

pub right_lines : all_right line_cases ≡ true
unfolding total_by lifts words_then fault read_from filter_range sends first_round first_refusal of_rounds verdict_by lines before_comma behind_comma all_digits value_from count_line among lines_from measure_for counts_verdict
right_lines = refl

pub right_forms : all_right form_cases ≡ true
unfolding lifts fault read_from lines before_comma behind_comma all_digits value_from count_line among lines_from counts_verdict
right_forms = refl

pub right_results : all_right result_cases ≡ true
unfolding total_by lifts words_then fault read_from filter_range sends first_round first_refusal of_rounds verdict_by lines before_comma behind_comma all_digits value_from count_line among lines_from measure_for counts_verdict
right_results = refl
