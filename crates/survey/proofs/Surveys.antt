-- The tables of a sheet, gathered in one walk over its lifts.
use Prim.Native.Nat.{ℕ}
use mathlib.Core.Path.{◌≡◌, sym, ap, ◌∙◌}
use mathlib.Core.List.{List, [], ◌∷◌, ◌++◌}
use lib.ListN.{get_or}
use Rattle.std.proofs.Common.{append_assoc}
use Rattle.sheet.specs.Sheet.{Lift, lifts}
use Rattle.sheet.specs.Reading.{Legible}
use Rattle.sheet.specs.declared.Entry.{Entry}
use Rattle.scan.specs.Lifts.{FirstLift}
use Rattle.tally.specs.Tables.{Tabled, Room}
use Rattle.tally.specs.declared.OldRound.{OldRound}
use Rattle.tally.specs.declared.NewRound.{NewRound}
use Rattle.tally.specs.declared.Tallies.{Tallies}
use Rattle.tally.proofs.Adding.{no_tallies, tabled_none, room}

-- the tables are those of the lifts before those that are left
pub record Surveyed (ws : List ℕ) (t : Tallies) (left : List Lift) : Type 0 where
  pub before : List Lift
  pub whole : before ++ left ≡ lifts ws
  pub tabled : Tabled before t

pub surveyed_none : {ws : List ℕ} {left : List Lift} → left ≡ lifts ws → Surveyed ws no_tallies left
surveyed_none e = record { before = []; whole = e; tabled = tabled_none }

module _ {ws : List ℕ} {t : Tallies} {left rest : List Lift} {e : Entry} (s : Surveyed ws t left) (f : FirstLift left e rest) where
  next : s.before ++ f.lift ∷ rest ≡ lifts ws
  next = ap (λ ls. s.before ++ ls) (sym f.first) ∙ s.whole

  -- the next lift fits
  pub fits : Legible ws → (o : OldRound) (n : NewRound) → Room (get_or t.old e.from o) (get_or t.new e.to n) e
  fits l o n = rw f.read (room l s.before rest f.lift next s.tabled f.old.round f.new.round o n)

  -- and once it is added, the tables are those of the lifts before those behind it
  pub surveyed_turn : {t' : Tallies} → Tabled (s.before ++ f.lift ∷ []) t' → Surveyed ws t' rest
  surveyed_turn d = record { before = s.before ++ f.lift ∷ []; whole = append_assoc s.before (f.lift ∷ []) rest ∙ next; tabled = d }
