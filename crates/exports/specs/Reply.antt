-- Answers through numbers that the caller lends, and enums from numbers.
use Rattle.std.specs.Prelude.{ℕ, ◌≡◌, Bool, cond, eqb, Option, None, Some, is_some}
use Rattle.round.specs.Choice.{is_held, outcome}
use Rattle.round.specs.Rows.{initials}
use Rattle.round.specs.declared.Donors.{Donors}
use Rattle.round.specs.declared.Donors.TheVariants.{None as NoDonor, One, Two}
use Rattle.round.specs.declared.Held.{Held}
use Rattle.round.specs.declared.Selection.{Selection}
use Rattle.tally.specs.Verdict.{Verdict, refused, fits}

-- the value, or what was there before
abbrev pub value_or : ℕ → Option (ℕ × ℕ) → ℕ
value_or x (Some (v, next)) = v
value_or x None = x

-- the next position, or what was there before
abbrev pub next_or : {A : Type 0} → ℕ → Option (A × ℕ) → ℕ
next_or x (Some (a, next)) = next
next_or x None = x

-- the answer to a draw d, and the two numbers lent: before the call and after it
pub record DrawReply (d : Option (ℕ × ℕ)) (answer : Bool) (value value' next next' : ℕ) : Type 0 where
  pub result : answer ≡ is_some d
  pub value_written : value' ≡ value_or value d
  pub next_written : next' ≡ next_or next d

-- the donors, from their count and their whole old sums
abbrev pub donors_from : ℕ → ℕ → ℕ → Donors
donors_from count first second = cond (eqb count 0) NoDonor (cond (eqb count 1) (One first) (Two first second))

-- the held lifts, from their count and their places: one alone stands for donor 1's, with which the choice is the same
abbrev pub held_from : ℕ → ℕ → ℕ → Held
held_from count i j =
    cond (eqb count 0) (record { first = None; second = None }) (cond (eqb count 1) (record { first = Some i; second = None }) (record { first = Some i; second = Some j }))

-- the place and the outcome of a choice, or what was there before
abbrev pub place_or : ℕ → Option (Selection × ℕ) → ℕ
place_or x (Some (s, next)) = s.place
place_or x None = x

abbrev pub outcome_or : ℕ → Held → Option (Selection × ℕ) → ℕ
outcome_or x h (Some (s, next)) = outcome (is_held (initials h) s.place) s.dropped
outcome_or x h None = x

-- the answer to a choice s from the held lifts h, and the three numbers lent: before the call and after it
pub record RoundReply (h : Held) (s : Option (Selection × ℕ)) (answer : Bool) (place place' outcome outcome' next next' : ℕ) : Type 0 where
  pub result : answer ≡ is_some s
  pub place_written : place' ≡ place_or place s
  pub outcome_written : outcome' ≡ outcome_or outcome h s
  pub next_written : next' ≡ next_or next s

-- the document's number of a refusal, 0 where the sheet fits
abbrev pub check_number : Verdict → ℕ
check_number (refused x) = x.number
check_number (fits lifts rounds) = 0

-- its place, or how many lifts there are
abbrev pub place_or_lifts : Verdict → ℕ
place_or_lifts (refused x) = x.place
place_or_lifts (fits lifts rounds) = lifts

-- how many new rounds there are, or what was there before
abbrev pub rounds_or : ℕ → Verdict → ℕ
rounds_or x (refused y) = x
rounds_or x (fits lifts rounds) = rounds

-- the answer to a sheet of verdict v, and the two numbers lent: after the call, and of the second before it too
pub record CheckReply (v : Verdict) (answer place' rounds rounds' : ℕ) : Type 0 where
  pub result : answer ≡ check_number v
  pub place_written : place' ≡ place_or_lifts v
  pub rounds_written : rounds' ≡ rounds_or rounds v
