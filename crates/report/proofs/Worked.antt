-- The table of files, computed. Assumes nothing.
use mathlib.Core.Path.{◌≡◌, refl}
use mathlib.Core.Bool.{true}
use Rattle.probability.specs.Table.{all_right}
use Rattle.probability.specs.Interval.{pick}
use Rattle.probability.specs.Pieces.{cut}
use Rattle.probability.specs.Plan.{bind}
use Rattle.probability.specs.Sum.{total, total_by}
use Rattle.draw.specs.Draw.{draw_from}
use Rattle.draw.specs.Run.{run}
use Rattle.round.specs.Round.{S, U, D, old_weight, new_weight, weights, G}
use Rattle.probability.specs.Branch.{join, update_or}
use Rattle.round.specs.Choice.{draw_place, first_odds, single, preliminary_by, stay_or, keyfitz, plan_by, outcome}
use Rattle.sheet.specs.Sheet.{lifts}
use Rattle.sheet.specs.Reading.{fault, read_from}
use Rattle.tally.specs.Verdict.{first_round, first_refusal, of_rounds, verdict_by}
use Rattle.tally.specs.Rounds.{filter_range, sends, of_round, held_at}
use Rattle.selection.specs.Choice.{donors_of, lifts_of, held_of_round, plan_of, lift_in_round, panel_from, reply}
use Rattle.report.specs.Report.{little_endian, little_endian_words, digits, decimal, field, choice_line, choice_lines, words_line, refused_line, text_of, report}
use Rattle.report.specs.Worked.{cases}

pub all_right_lem : all_right cases ≡ true
unfolding pick cut bind total total_by draw_from run S U D old_weight new_weight weights G draw_place first_odds single join update_or preliminary_by stay_or keyfitz plan_by outcome lifts fault read_from filter_range sends of_round first_round first_refusal of_rounds verdict_by donors_of lifts_of held_at held_of_round plan_of lift_in_round panel_from reply little_endian little_endian_words digits decimal field choice_line choice_lines words_line refused_line text_of report
all_right_lem = refl
