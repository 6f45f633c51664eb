-- "One round" of document 01: the choice, as one tree of draws, by any update of the preliminary lift.
use Rattle.std.specs.Prelude.{ℕ, ◌*◌, Bool, true, false, cond, ◌||◌, List, [], ◌∷◌, map, leb, ltb, eqb, get_or, Option}
use Rattle.probability.specs.Interval.{pick}
use Rattle.probability.specs.Initial.{Initial, here, elsewhere}
use Rattle.probability.specs.Plan.{Plan, done, draw}
use Rattle.probability.specs.Branch.{Branch, absent, present, join, update_or}
use Rattle.draw.specs.Draw.{largest}
use Rattle.draw.specs.Run.{run, answer}
use Rattle.round.specs.Round.{S, U, D, weights, weight_at, growth, G}
use Rattle.round.specs.declared.Donors.{Donors}
use Rattle.round.specs.declared.Donors.TheVariants.{None, One, Two}
use Rattle.round.specs.declared.Lift.{Lift}
use Rattle.round.specs.declared.Selection.{Selection}
use Rattle.round.specs.declared.Weight.{Weight}

-- the choice of the lift at a place, and whether a preliminary lift was dropped for it
abbrev pub selection : ℕ → Bool → Selection
selection i d = record { place = i; dropped = d }

-- draw below a bound and "take the lift in whose stretch" the value "falls", the stretches laid end to end, in lift order
unfoldable pub draw_place : (bound : ℕ) → (stretches : List ℕ) → (dropped : Bool) → Plan Selection
draw_place bound stretches dropped = draw bound (λ v. done (selection (pick stretches v) dropped))

-- "No held lift here: draw f below S; take the lift in whose stretch f falls when the b are laid end to end, in lift order."
abbrev pub fresh : List Lift → Plan Selection
fresh ls = draw_place (S ls) (map (λ l. l.new) ls) false

-- ---- the preliminary lift, from where the donors' held lifts are

-- a donor's held lift alone: "One held lift here: it is preliminary."
unfoldable pub single : Initial → Branch
single elsewhere = absent
single (here i) = present (done i)

-- where the held lift of the donor behind k others is
abbrev pub initial_at : List Initial → ℕ → Initial
initial_at xs k = get_or xs k elsewhere

-- "U2 × T1"
unfoldable pub first_odds : Donors → List Lift → ℕ
first_odds None ls = 0
first_odds (One T) ls = 0
first_odds (Two T₁ T₂) ls = U 2 ls * T₁

-- "Two held lifts here: draw v below" a bound. "If v is less than" the odds, "donor 1's lift is preliminary, else donor 2's."
unfoldable pub preliminary_by : (bound odds : ℕ) → List Initial → Branch
preliminary_by bound odds xs = join bound odds (single (initial_at xs 0)) (single (initial_at xs 1))

-- "draw v below D. If v is less than U2 × T1"
abbrev pub preliminary : Donors → List Lift → List Initial → Branch
preliminary ds ls xs = preliminary_by (D ds ls) (first_odds ds ls) xs

-- ---- its update

-- an update: the choice from the weights and the place of the preliminary lift
abbrev pub Update : Type 0
Update = List Weight → ℕ → Plan Selection

-- "The preliminary lift stays with no draw if its growth is 0 or more. Otherwise draw r below its old weight; it stays if r is
-- less than its new weight."
unfoldable pub stay_or : {A : Type 0} → Weight → Plan A → Plan A → Plan A
stay_or w stay move = cond (leb w.old w.new) stay (draw w.old (λ r. cond (ltb r w.new) stay move))

-- "If it is dropped, draw q below G and take the lift in whose stretch q falls, the growths above zero laid end to end in lift
-- order."
abbrev pub replacement : List Weight → Plan Selection
replacement ws = draw_place (G ws) (map growth ws) true

-- Keyfitz's update of the preliminary lift at place i
unfoldable pub keyfitz : Update
keyfitz ws i = stay_or (weight_at ws i) (done (selection i false)) (replacement ws)

-- the choice of a round by an update, from where its donors' held lifts are
unfoldable pub plan_by : Update → Donors → List Lift → List Initial → Plan Selection
plan_by update ds ls xs = update_or (update (weights ds ls)) (fresh ls) (preliminary ds ls xs)

-- the choice of a round
abbrev pub plan : Donors → List Lift → List Initial → Plan Selection
plan ds ls xs = plan_by keyfitz ds ls xs

-- ---- the outcome

-- whether a held lift is at place i
abbrev pub is_here : Initial → ℕ → Bool
is_here (here a) i = eqb a i
is_here elsewhere i = false

-- whether the lift at place i is one of the held lifts
abbrev pub is_held : List Initial → ℕ → Bool
is_held [] i = false
is_held (x ∷ xs) i = is_here x i || is_held xs i

-- "Outcome: 1 if the choice was held, else 2 if a preliminary lift was dropped, else 3 (fresh)."
unfoldable pub outcome : (held dropped : Bool) → ℕ
outcome held dropped = cond held 1 (cond dropped 2 3)

-- ---- from random words

-- the choice by an update and the next position, from the random words ws, read from a position on
abbrev pub selected_by : Update → Donors → List Lift → List Initial → List ℕ → ℕ → Option (Selection × ℕ)
selected_by update ds ls xs ws at = answer (run largest ws at (plan_by update ds ls xs))

abbrev pub selected : Donors → List Lift → List Initial → List ℕ → ℕ → Option (Selection × ℕ)
selected ds ls xs ws at = selected_by keyfitz ds ls xs ws at
