-- What is proved of a text that is taken: the sheet then fits, and has the same lifts with the counts of the lines.
use Rattle.std.specs.Prelude.{ℕ, ◌<◌, ◌≡◌, true, List, [], map, length, get_or}
use Rattle.sheet.specs.Sheet.{Lift, lifts}
use Rattle.sheet.specs.Lift.{place_at, New}
use Rattle.tally.specs.Verdict.{fits}
use Rattle.tally.specs.Law.{Fitting}
use Rattle.counts.specs.Text.{lines, counted, count_line}
use Rattle.probability.specs.Among.{among}
use Rattle.counts.specs.Counts.{numbers_of, hundreds, remeasured, measured, renewed, counts_verdict}

-- a line that is taken, among all lines, for lifts of these numbers: it names one of them, and this lift gets its new measure from this
-- line and from no other
pub record TakenLine (ns : List ℕ) (xs : List (List ℕ)) (x : List ℕ) : Type 0 where
  pub lift : ℕ
  pub count : ℕ
  pub says : count_line x ≡ counted lift count
  pub there : among lift ns ≡ true
  pub alone : (l : Lift) → l.number ≡ lift → measured xs l ≡ remeasured l (hundreds count)
  -- the lift then counts with it, also if it was not counted before: what a line says is never "not counted"
  pub counts : (l : Lift) → (place_at New (remeasured l (hundreds count))).measure ≡ hundreds count

-- a text that is taken: the sheet then fits, reading it gives the lifts with their counts, and each line is one of the counts
pub record TakenText (sheet text : List ℕ) : Type 0 where
  pub fits : Fitting (renewed sheet text)
  pub back : lifts (renewed sheet text) ≡ map (measured (lines text)) (lifts sheet)
  pub each : (i : ℕ) → i < length (lines text) → TakenLine (numbers_of (lifts sheet)) (lines text) (get_or (lines text) i [])

-- this holds whenever a text is not refused
abbrev pub Takes : List ℕ → List ℕ → Type 0
Takes sheet text = (a b : ℕ) → counts_verdict sheet text ≡ fits a b → TakenText sheet text
