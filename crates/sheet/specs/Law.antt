-- What is proved of words and lists of lifts: reading and writing are inverse.
use Rattle.std.specs.Prelude.{ℕ, ◌^◌, ◌≤◌, ◌<◌, ◌≡◌, true, false, List, [], ◌∷◌, length}
use Rattle.sheet.specs.Sheet.{most_lifts, most_rounds, not_counted, old_kind, new_kind, end_kind, Place, Lift, lifts, word, words_then, sheet_of}
use Rattle.sheet.specs.Reading.{too_large, reading, sound}

-- a place that refusal 4 does not meet in a word of kind k
pub record PlaceWellFormed (k : ℕ) (p : Place) : Type 0 where
  pub round : p.round ≤ most_rounds
  pub measure : too_large k p.measure ≡ false
  pub nowhere : p.round ≡ 0 → p.measure ≡ 0

-- a lift whose words meet no refusal when the lift before it has number n
pub record LiftWellFormed (n : ℕ) (l : Lift) : Type 0 where
  pub rises : n < l.number
  pub payload : l.number < 2 ^ 28
  pub old : PlaceWellFormed old_kind l.old
  pub new : PlaceWellFormed new_kind l.new
  pub newcomer : l.old.round ≡ 0 → l.new.measure ≡ not_counted → ⊥
  pub held : l.held ≡ true → 0 < l.old.measure

-- lifts whose words meet no refusal when the lift before them has number n: "Lift numbers rise."
unfoldable pub AllWellFormed : ℕ → List Lift → Type 0
AllWellFormed n [] = Unit {0}
AllWellFormed n (l ∷ ls) = LiftWellFormed n l × AllWellFormed l.number ls

-- lifts that can be written as a legible sheet
pub record WellFormed (ls : List Lift) : Type 0 where
  pub listed : AllWellFormed 0 ls
  pub few : length ls ≤ most_lifts

-- what is left of a legible sheet behind a lift: the words of well-formed lifts, then an end word
pub record LiftsLeft (ws : List ℕ) : Type 0 where
  pub before : ℕ
  pub listed : AllWellFormed before (lifts ws)
  pub count : ℕ
  pub few : count < 2 ^ 28
  pub back : words_then (lifts ws) (word end_kind count ∷ []) ≡ ws

-- a sheet without a faulty word consists of the words of its own lifts
pub record ReadBack (ws : List ℕ) : Type 0 where
  pub back : sheet_of (lifts ws) ≡ ws
  pub well_formed : WellFormed (lifts ws)

abbrev pub ReadBackTheorem : Type 0
ReadBackTheorem = (ws : List ℕ) → reading ws ≡ sound → ReadBack ws

-- the words of well-formed lifts have no fault, and reading them gives the lifts back
pub record WrittenBack (ls : List Lift) : Type 0 where
  pub sound : reading (sheet_of ls) ≡ sound
  pub back : lifts (sheet_of ls) ≡ ls

abbrev pub WrittenBackTheorem : Type 0
WrittenBackTheorem = (ls : List Lift) → WellFormed ls → WrittenBack ls

-- a place, and a lift, whose numbers fit the bits of their words: "upper 7 bits .., lower 21 bits", "the low 28"
pub record WritablePlace (p : Place) : Type 0 where
  pub round : p.round < 2 ^ 7
  pub measure : p.measure < 2 ^ 21

pub record Writable (l : Lift) : Type 0 where
  pub number : l.number < 2 ^ 28
  pub old : WritablePlace l.old
  pub new : WritablePlace l.new

unfoldable pub AllWritable : List Lift → Type 0
AllWritable [] = Unit {0}
AllWritable (l ∷ ls) = Writable l × AllWritable ls

-- reading the words of such lifts gives the lifts back, whether or not the words are refused
abbrev pub BackTheorem : Type 0
BackTheorem = (ls : List Lift) → AllWritable ls → length ls < 2 ^ 28 → lifts (sheet_of ls) ≡ ls
