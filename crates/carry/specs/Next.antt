-- Next quarter's sheet: "Write the choices as a sheet" (Card 3 of document 02).
use Rattle.std.specs.Prelude.{ℕ, ◌+◌, ◌*◌, Bool, false, cond, Option, None, Some, List, [], ◌∷◌, map, eqb, length, get_or}
use Rattle.probability.specs.Among.{among}
use Rattle.sheet.specs.Sheet.{not_counted, Place, Lift, sheet_of}
use Rattle.sheet.specs.Lift.{place_at, New}
use Rattle.selection.specs.Choice.{Choice}
use Rattle.selection.specs.declared.Pick.{Pick}

-- "lifts in order, withdrawn ones left out": those of a new round
unfoldable pub remaining : List Lift → List Lift
remaining [] = []
remaining (l ∷ ls) = cond (eqb l.new.round 0) (remaining ls) (l ∷ remaining ls)

-- "new place the same round and 'not counted'"
abbrev pub uncounted : Lift → Place
uncounted l = record { round = l.new.round; measure = not_counted }

-- "old place taken from the new one with its measure filled in", and held where a test passes
abbrev pub carried : (Lift → Bool) → Lift → Lift
carried held l = record { number = l.number; old = place_at New l; new = uncounted l; held = held l }

-- some lifts carried on into the next quarter
abbrev pub carried_on : (Lift → Bool) → List Lift → List Lift
carried_on held ls = map (carried held) (remaining ls)

-- whether a lift is one of some choices
abbrev pub is_chosen : List Choice → Lift → Bool
is_chosen cs l = among l.number (map (λ c. c.number) cs)

-- next quarter's lifts: "held marks on the choices"
abbrev pub next_lifts : List Choice → List Lift → List Lift
next_lifts cs ls = carried_on (is_chosen cs) ls

-- next quarter's sheet
abbrev pub next_sheet : List Choice → List Lift → List ℕ
next_sheet cs ls = sheet_of (next_lifts cs ls)

-- "the words needed": three for each lift that remains, a held word for each new round in use, and the end word
abbrev pub words_needed : List Lift → ℕ → ℕ
words_needed ls rounds = 3 * length (remaining ls) + rounds + 1

-- ---- as the code finds it

-- whether there is a lift chosen and it has this number
abbrev pub has_number : Option Pick → ℕ → Bool
has_number None n = false
has_number (Some p) n = eqb p.number n

-- whether a lift is its new round's choice, from the lifts chosen by round
abbrev pub in_table : List (Option Pick) → Lift → Bool
in_table table l = has_number (get_or table l.new.round None) l.number
