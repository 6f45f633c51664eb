-- The cases, computed.
use mathlib.Core.Path.{◌≡◌, refl}
use mathlib.Core.Bool.{true}
use Rattle.probability.specs.Table.{all_right}
use Rattle.probability.specs.Among.{among}
use Rattle.probability.specs.Sum.{total, total_by}
use Rattle.probability.specs.Interval.{pick}
use Rattle.probability.specs.Plan.{bind}
use Rattle.draw.specs.Draw.{draw_from}
use Rattle.draw.specs.Run.{run}
use Rattle.round.specs.Round.{S, U, D, old_weight, new_weight, weights, G}
use Rattle.probability.specs.Branch.{join, update_or}
use Rattle.round.specs.Choice.{draw_place, first_odds, single, preliminary_by, stay_or, keyfitz, plan_by, outcome}
use Rattle.sheet.specs.Sheet.{lifts, words_then as written_lifts}
use Rattle.sheet.specs.Reading.{fault, read_from}
use Rattle.tally.specs.Verdict.{first_round, first_refusal, of_rounds, verdict_by}
use Rattle.tally.specs.Rounds.{filter_range, sends, of_round, held_at}
use Rattle.selection.specs.Choice.{donors_of, lifts_of, held_of_round, plan_of, lift_in_round, panel_from, written_pairs}
use Rattle.carry.specs.Next.{remaining}
use Rattle.carry.specs.Reply.{reply_next, output_next, lent_sheet}
use Rattle.carry.specs.Worked.{cases, corner_cases}

pub all_right_lem : all_right cases ≡ true
unfolding total total_by pick bind draw_from run S U D old_weight new_weight weights G draw_place first_odds single join update_or preliminary_by stay_or keyfitz plan_by outcome lifts written_lifts fault read_from filter_range sends of_round first_round first_refusal of_rounds verdict_by donors_of lifts_of held_at held_of_round plan_of lift_in_round panel_from written_pairs remaining among reply_next output_next lent_sheet
all_right_lem = refl

pub corners_right : all_right corner_cases ≡ true
unfolding total total_by pick bind draw_from run S U D old_weight new_weight weights G draw_place first_odds single join update_or preliminary_by stay_or keyfitz plan_by outcome lifts written_lifts fault read_from filter_range sends of_round first_round first_refusal of_rounds verdict_by donors_of lifts_of held_at held_of_round plan_of lift_in_round panel_from written_pairs remaining among reply_next output_next lent_sheet
corners_right = refl
