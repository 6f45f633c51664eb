-- The document's cases, and the exact shares and keeping of small sheets, computed.
use mathlib.Core.Path.{◌≡◌, refl}
use mathlib.Core.Bool.{true}
use Rattle.probability.specs.Table.{all_right}
use Rattle.probability.specs.Among.{among}
use Rattle.probability.specs.Sum.{over, total, total_by}
use Rattle.probability.specs.Interval.{pick}
use Rattle.probability.specs.Fraction.{sum_over}
use Rattle.probability.specs.Plan.{bind, paths, weight}
use Rattle.draw.specs.Draw.{draw_from}
use Rattle.draw.specs.Run.{run}
use Rattle.round.specs.Round.{S, U, D, old_weight, new_weight, weights, G}
use Rattle.probability.specs.Branch.{join, update_or}
use Rattle.round.specs.Choice.{draw_place, first_odds, single, preliminary_by, stay_or, keyfitz, plan_by, outcome}
use Rattle.sheet.specs.Sheet.{lifts, words_then as written_lifts}
use Rattle.sheet.specs.Reading.{fault, read_from}
use Rattle.tally.specs.Verdict.{first_round, first_refusal, of_rounds, verdict_by}
use Rattle.tally.specs.Rounds.{filter_range, sends, of_round, held_at}
use Rattle.selection.specs.Choice.{donors_of, lifts_of, held_of_round, plan_of, lift_in_round, panel_from, reply, written_pairs, output}
use Rattle.selection.specs.Initial.{eligible, each, selections_from, marked, product, initial_weight, mean_over_selections}
use Rattle.selection.specs.Fair.{share, kept}
use Rattle.selection.specs.Worked.{cases, silent_cases, share_cases, keeping_cases}

pub all_right_lem : all_right cases ≡ true
unfolding total total_by pick bind draw_from run S U D old_weight new_weight weights G draw_place first_odds single join update_or preliminary_by stay_or keyfitz plan_by outcome lifts written_lifts fault read_from filter_range sends of_round first_round first_refusal of_rounds verdict_by donors_of lifts_of held_at held_of_round plan_of lift_in_round panel_from reply written_pairs output
all_right_lem = refl

pub silent_right : all_right silent_cases ≡ true
unfolding total total_by pick bind draw_from run S U D old_weight new_weight weights G draw_place first_odds single join update_or preliminary_by stay_or keyfitz plan_by outcome lifts written_lifts fault read_from filter_range sends of_round first_round first_refusal of_rounds verdict_by donors_of lifts_of held_at held_of_round plan_of lift_in_round panel_from reply written_pairs output
silent_right = refl

pub exact_shares : all_right share_cases ≡ true
unfolding over total total_by pick bind paths sum_over weight S U D old_weight new_weight weights G draw_place first_odds single join update_or preliminary_by stay_or keyfitz plan_by filter_range sends of_round donors_of lifts_of held_at held_of_round plan_of lift_in_round eligible each selections_from among marked product initial_weight mean_over_selections share
exact_shares = refl

pub exact_keeping : all_right keeping_cases ≡ true
unfolding over total total_by pick bind paths sum_over weight S U D old_weight new_weight weights G draw_place first_odds single join update_or preliminary_by stay_or keyfitz plan_by filter_range sends of_round donors_of lifts_of held_at held_of_round plan_of lift_in_round eligible each selections_from among marked product initial_weight mean_over_selections kept
exact_keeping = refl
