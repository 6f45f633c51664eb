-- Initial selections (the document's markings): "A marking names one lift of old measure above 0 in each old round as held; all else
-- in the sheet stays."
use Rattle.std.specs.Prelude.{ℕ, ◌*◌, Bool, cond, ◌&&◌, List, [], ◌∷◌, ◌++◌, map, eqb, ltb}
use Rattle.probability.specs.Among.{among}
use Rattle.probability.specs.Fraction.{Fraction, ◌//◌, ◌⊗◌, sum_over}
use Rattle.sheet.specs.Sheet.{Lift}
use Rattle.tally.specs.Rounds.{in_use, sum_of}
use Rattle.sheet.specs.Lift.{Old}

-- the lifts of old round t that can be held: of old measure above 0
unfoldable pub eligible : ℕ → List Lift → List Lift
eligible t [] = []
eligible t (l ∷ ls) = cond (eqb l.old.round t && ltb 0 l.old.measure) (l ∷ eligible t ls) (eligible t ls)

-- each of the lifts put before each of the selections
unfoldable pub each : List Lift → List (List Lift) → List (List Lift)
each [] ms = []
each (l ∷ ls) ms = map (λ m. l ∷ m) ms ++ each ls ms

-- one eligible lift for each of some old rounds
unfoldable pub selections_from : List ℕ → List Lift → List (List Lift)
selections_from [] ls = [] ∷ []
selections_from (t ∷ ts) ls = each (eligible t ls) (selections_from ts ls)

-- all initial selections of a sheet: one lift in each old round
abbrev pub selections : List Lift → List (List Lift)
selections ls = selections_from (in_use Old ls) ls

-- whether a selection names the lift of a number
abbrev pub names : List Lift → ℕ → Bool
names m n = among n (map (λ l. l.number) m)

-- the lift held where the selection names it, all else as it was
abbrev pub holding : List Lift → Lift → Lift
holding m l = record { number = l.number; old = l.old; new = l.new; held = names m l.number }

-- the sheet's lifts so marked
unfoldable pub marked : List Lift → List Lift → List Lift
marked m ls = map (holding m) ls

-- the product of a list
unfoldable pub product : List ℕ → ℕ
product [] = 1
product (n ∷ ns) = n * product ns

-- "the product of the held lifts' old measures over the product of all old sums", for the old rounds ts
unfoldable pub initial_weight : List ℕ → List Lift → List Lift → Fraction
initial_weight ts m ls = product (map (λ l. l.old.measure) m) // product (map (λ t. sum_of Old t ls) ts)

-- the mean of f over all initial selections, f taken of the lifts so marked
unfoldable pub mean_over_selections : List Lift → (List Lift → Fraction) → Fraction
mean_over_selections ls f = sum_over (selections ls) (λ m. initial_weight (in_use Old ls) m ls ⊗ f (marked m ls))
