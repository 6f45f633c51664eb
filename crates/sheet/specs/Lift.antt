-- What counts of a lift (Card 2 of document 02), and a lift as the code reads it from its words.
use Rattle.std.specs.Prelude.{ℕ, ◌≡◌, cond, List, eqb, get_or}
use Rattle.sheet.specs.Sheet.{not_counted, kind, held_kind, Place, Lift, word}
use Rattle.sheet.specs.declared.Entry.{Entry}

-- the old or the new place of a lift
pub data Side : Type 0 where
  Old : Side
  New : Side

-- the new measure that counts, from both measures as written: if not counted, "the lift counts with its old measure"
abbrev pub filled_in : (old new : ℕ) → ℕ
filled_in old new = cond (eqb new not_counted) old new

-- a lift's old place, or its new one with the measure that counts: "Sums, weights and shares are taken from the measures so filled in."
abbrev pub place_at : Side → Lift → Place
place_at Old l = l.old
place_at New l = record { round = l.new.round; measure = filled_in l.old.measure l.new.measure }

-- if the word after a lift's places is of kind 4, it is the one held word that a legible sheet may have
abbrev pub MarkSound : List ℕ → Type 0
MarkSound ws = kind (get_or ws 3 0) ≡ held_kind → get_or ws 3 0 ≡ word held_kind 0

-- a lift as the code reads it
abbrev pub entry_of : Lift → Entry
entry_of l =
    record {
      number = l.number;
      from = l.old.round;
      old = l.old.measure;
      to = l.new.round;
      new = (place_at New l).measure;
      held = l.held;
    }
