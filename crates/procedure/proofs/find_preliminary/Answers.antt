-- `procedure::find_preliminary` meets its contract: by where both held lifts are. Assumes nothing.
use Rattle.std.proofs.Common.{ℕ, ◌≡◌, refl, List, [], ◌∷◌, Option, Some, None}
use Rattle.probability.specs.Branch.{join}
use Rattle.probability.specs.Initial.{elsewhere}
use Rattle.draw.specs.Run.{run}
use Rattle.round.specs.Choice.{single, preliminary_by}
use Rattle.round.specs.Rows.{initial_of}
use Rattle.procedure.specs.Preliminary.{proposed}
use Rattle.procedure.proofs.find_preliminary.Goals as goal

pub returns-in_err-draw_between-in-Some-Some-clause-value : goal.returns-in_err-draw_between-in-Some-Some-clause-value
unfolding preliminary_by single join
returns-in_err-draw_between-in-Some-Some-clause-value c =
    rw (c.from_residual.ensures, c.in-Some-Some.is-0, c.in-Some-Some.is-1, ← c.draw_between.ensures.value, c.in_err-draw_between-in-Some-Some.was)

pub returns-in_ok-draw_between-in-Some-Some-clause-value : goal.returns-in_ok-draw_between-in-Some-Some-clause-value
unfolding preliminary_by single join
returns-in_ok-draw_between-in-Some-Some-clause-value c =
    rw (c.in-Some-Some.is-0, c.in-Some-Some.is-1, ← c.draw_between.ensures.value, c.in_ok-draw_between-in-Some-Some.was)

pub returns-in-Some-None-clause-value : goal.returns-in-Some-None-clause-value
unfolding preliminary_by single join run
returns-in-Some-None-clause-value c = rw (c.in-Some-None.is-0, c.in-Some-None.is-1)

-- with donor 1's held lift elsewhere it is donor 2's, if that is here
second_alone : (ws : List ℕ) (at bound odds : ℕ) (second : Option ℕ) → Some (second, at) ≡ proposed ws at (preliminary_by bound odds (elsewhere ∷ initial_of second ∷ []))
unfolding preliminary_by single join run
second_alone ws at bound odds None = refl
second_alone ws at bound odds (Some j) = refl

pub returns-in-None-default-clause-value : goal.returns-in-None-default-clause-value
returns-in-None-default-clause-value c = rw c.in-None-default.is-0 (second_alone _ _ _ _ _)
