-- Which lifts and which sheets fit, and what is proved of the verdict.
use Rattle.std.specs.Prelude.{ℕ, ◌≤◌, ◌<◌, ◌≡◌, Bool, false, List, [], length}
use Rattle.reply.specs.Reply.{Numbered}
use Rattle.reply.specs.declared.Refusal.{Refusal}
use Rattle.sheet.specs.Sheet.{most_rounds, Lift, lifts}
use Rattle.sheet.specs.Reading.{Legible}
use Rattle.sheet.specs.Law.{WellFormed}
use Rattle.sheet.specs.Lift.{Old, New}
use Rattle.tally.specs.Rounds.{in_use}
use Rattle.tally.specs.Verdict.{refused, fits, not_one_held, oversize, zero_sum, crowded, verdict_by}

-- ---- fitting

-- no round passes the test
abbrev pub Nowhere : (ℕ → Bool) → Type 0
Nowhere p = (r : ℕ) → 1 ≤ r → r ≤ most_rounds → p r ≡ false

-- none of the refusals 7 to 9 applies to any round of some lifts
pub record RoundsFit (ls : List Lift) : Type 0 where
  pub held : Nowhere (not_one_held ls)
  pub old : Nowhere (oversize Old ls)
  pub new : Nowhere (oversize New ls)
  pub measured : Nowhere (zero_sum ls)

-- lifts fit when they are well-formed and none of the refusals of rounds applies; `refuses` gives those behind 9
pub record FitBy (refuses : List Lift → List Refusal) (ls : List Lift) : Type 0 where
  pub well_formed : WellFormed ls
  pub rounds : RoundsFit ls
  pub last : refuses ls ≡ []

-- lifts that fit with 10 behind 9
abbrev pub Fit : List Lift → Type 0
Fit ls = FitBy crowded ls

-- a sheet fits when none of the refusals applies; `refuses` gives those behind 9
pub record FittingBy (refuses : List Lift → List Refusal) (ws : List ℕ) : Type 0 where
  pub legible : Legible ws
  pub rounds : RoundsFit (lifts ws)
  pub last : refuses (lifts ws) ≡ []

-- a sheet that fits with 10 behind 9
abbrev pub Fitting : List ℕ → Type 0
Fitting ws = FittingBy crowded ws

-- exactly the sheets that fit are not refused
pub record Decided (refuses : List Lift → List Refusal) (ws : List ℕ) : Type 0 where
  pub passes : FittingBy refuses ws → verdict_by refuses ws ≡ fits (length (lifts ws)) (length (in_use New (lifts ws)))
  pub only : (n k : ℕ) → verdict_by refuses ws ≡ fits n k → FittingBy refuses ws × (n ≡ length (lifts ws)) × (k ≡ length (in_use New (lifts ws)))
  -- 0 is no refusal's number
  pub above : (x : Numbered) → verdict_by refuses ws ≡ refused x → 0 < x.number

abbrev pub DecidedTheorem : Type 0
DecidedTheorem = (refuses : List Lift → List Refusal) (ws : List ℕ) → Decided refuses ws
