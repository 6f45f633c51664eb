-- The document's cases and figures, and the exact shares and keeping of small rounds, computed.
use Prim.Native.Nat.{ℕ, zero, suc, ◌*◌, ◌<◌}
use mathlib.Core.Path.{◌≡◌, refl}
use mathlib.Core.Bool.{true}
use Rattle.probability.specs.Table.{all_right}
use native.Mathlib.Omega.{arith}
use Rattle.probability.specs.Sum.{over, Σ, total, total_by}
use Rattle.probability.specs.Interval.{pick}
use Rattle.probability.specs.Fraction.{sum_over}
use Rattle.probability.specs.Plan.{bind, paths, weight}
use Rattle.draw.specs.Draw.{draw_from}
use Rattle.draw.specs.Run.{run}
use Rattle.round.specs.Round.{S, U, D, old_weight, new_weight, weights, weight_at, G}
use Rattle.probability.specs.Branch.{join, update_or}
use Rattle.round.specs.Choice.{draw_place, first_odds, single, preliminary_by, stay_or, keyfitz, plan_by, outcome}
use Rattle.round.specs.Share.{mean_over_initial, mean_over_donors, round_share}
use Rattle.round.specs.Keep.{round_kept, Coupling}
use Rattle.round.specs.declared.Donors.TheVariants.{One}
use Rattle.round.specs.Worked.{cases, figure_cases, share_cases, exchanged, rule, keeping_cases}

pub all_right_lem : all_right cases ≡ true
unfolding total total_by pick bind draw_from run S U D old_weight new_weight weights G draw_place first_odds single join update_or preliminary_by stay_or keyfitz plan_by outcome
all_right_lem = refl

pub exact_figures : all_right figure_cases ≡ true
unfolding total total_by S U D old_weight new_weight weights G
exact_figures = refl

pub exact_shares : all_right share_cases ≡ true
unfolding over total total_by pick bind paths sum_over weight S U D old_weight new_weight weights G draw_place first_odds single join update_or preliminary_by stay_or keyfitz plan_by mean_over_initial mean_over_donors round_share
exact_shares = refl

pub exact_keeping : all_right keeping_cases ≡ true
unfolding over total total_by pick bind paths sum_over weight S U D old_weight new_weight weights G draw_place first_odds single join update_or preliminary_by stay_or keyfitz plan_by mean_over_initial mean_over_donors round_kept
exact_keeping = refl

row : (i : ℕ) → i < 2 → Σ 2 (λ j. rule i j) ≡ (weight_at (weights (One 3) exchanged) i).old * 1
unfolding over total total_by S U D old_weight new_weight weights
row zero l = refl
row (suc zero) l = refl
row (suc (suc i)) l = absurd (omega arith)

column : (j : ℕ) → j < 2 → Σ 2 (λ i. rule i j) ≡ (weight_at (weights (One 3) exchanged) j).new * 1
unfolding over total total_by S U D old_weight new_weight weights
column zero l = refl
column (suc zero) l = refl
column (suc (suc j)) l = absurd (omega arith)

-- the rule is a coupling of these weights
pub coupled : Coupling (weights (One 3) exchanged) 1 rule
unfolding weights
coupled = record { rows = row; columns = column }
