-- The rounds of a sheet laid out as rows, and the choices of all rounds as the code gathers them.
use Rattle.std.specs.Prelude.{ℕ, ◌<◌, ◌≡◌, Option, None, Some, Result, Ok, Err, List, [], ◌∷◌, eqb, get_or}
use Rattle.probability.specs.Initial.{Initial, elsewhere}
use Rattle.probability.specs.Pieces.{pieces}
use Rattle.round.specs.Choice.{outcome}
use Rattle.round.specs.declared.Selection.{Selection}
use Rattle.round.specs.Rows.{row_length}
use Rattle.sheet.specs.Sheet.{kind, payload, held_kind}
use Rattle.reply.specs.declared.Refusal.{Refusal}
use Rattle.reply.specs.declared.Refusal.TheVariants.{Words}
use Rattle.rows.specs.Rows.{place_in}
use Rattle.rows.specs.declared.LaidRound.{LaidRound}
use Rattle.tally.specs.declared.OldRound.{OldRound}
use Rattle.selection.specs.Choice.{Panel, chosen, short, by_round, none_chosen}
use Rattle.selection.specs.declared.Pick.{Pick}

-- ---- one round

-- the donors of a round
abbrev pub up_to_two : Option ℕ → Option ℕ → List ℕ
up_to_two None second = []
up_to_two (Some t) None = t ∷ []
up_to_two (Some t) (Some u) = t ∷ u ∷ []

abbrev pub donors_at : LaidRound → List ℕ
donors_at x = up_to_two x.first x.second

-- the sum of an old round in its table
abbrev pub old_sum : List OldRound → ℕ → ℕ
old_sum olds t = (get_or olds t (record { lifts = 0; held = 0; sum = 0 })).sum

-- where the held lift of a donor is, from the rows of the held lifts; elsewhere if there is no such donor
abbrev pub initial_by : LaidRound → List (Option ℕ) → Option ℕ → Initial
initial_by x seats None = elsewhere
initial_by x seats (Some t) = place_in x.begin x.end (get_or seats t None)

-- where the held lifts of the two donors of a round are
abbrev pub initials_at : LaidRound → List (Option ℕ) → List Initial
initials_at x seats = initial_by x seats x.first ∷ initial_by x seats x.second ∷ []

-- the lift chosen in a round of these rows, by its number and its own mark
abbrev pub pick_at : List ℕ → Selection → Pick
pick_at rows s =
    let mark = get_or (get_or (pieces row_length rows) s.place []) 0 0 in record { number = payload mark; outcome = outcome (eqb (kind mark) held_kind) s.dropped }

-- with the position that the reader reached; none where the words ended
abbrev pub picked_at : List ℕ → Option (Selection × ℕ) → Option (Pick × ℕ)
picked_at rows (Some (s, next)) = Some (pick_at rows s, next)
picked_at rows None = None

-- ---- all rounds

-- the lifts chosen in a panel, by round; or 13, of the round in which the words ended
abbrev pub picks_of : Panel → Result (List (Option Pick)) Refusal
picks_of (chosen cs next) = Ok (by_round cs none_chosen)
picks_of (short r) = Err (Words r)

-- the reader stands behind the last word read; or the words ended in a round, which is one from 1 up
abbrev pub Behind : Panel → ℕ → Type 0
Behind (chosen cs next) at = at ≡ next
Behind (short r) at = 0 < r
