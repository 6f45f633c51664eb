-- The lifts of a legible sheet one by one, as the code reads them.
use Rattle.std.specs.Prelude.{◌≡◌, List, [], ◌∷◌, Option, MatchOption}
use Rattle.sheet.specs.Sheet.{old_kind, new_kind, Lift}
use Rattle.sheet.specs.Lift.{entry_of}
use Rattle.sheet.specs.Law.{PlaceWellFormed}
use Rattle.sheet.specs.declared.Entry.{Entry}

-- the first of some lifts, read as e, and those behind it; its places are well-formed
pub record FirstLift (ls : List Lift) (e : Entry) (rest : List Lift) : Type 0 where
  pub lift : Lift
  pub first : ls ≡ lift ∷ rest
  pub read : e ≡ entry_of lift
  pub old : PlaceWellFormed old_kind lift.old
  pub new : PlaceWellFormed new_kind lift.new

-- a step from the lifts left: the first of them, or none where none is left
abbrev pub GivesLift : List Lift → Option Entry → List Lift → Type 0
GivesLift ls r rest = MatchOption r ((ls ≡ []) × (rest ≡ [])) (λ e. FirstLift ls e rest)
