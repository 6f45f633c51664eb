-- What is proved of next quarter's sheet: it reads back as the lifts that were carried on, fits, and, run at once, keeps every recorder.
use Rattle.std.specs.Prelude.{ℕ, ◌*◌, ◌≤◌, ◌≡◌, List, [], map, length}
use Rattle.sheet.specs.Sheet.{Lift, lifts}
use Rattle.tally.specs.Rounds.{in_use}
use Rattle.tally.specs.Verdict.{fits, verdict}
use Rattle.reply.specs.Reply.{replied}
use Rattle.tally.specs.Law.{Fit}
use Rattle.sheet.specs.Lift.{New}
use Rattle.selection.specs.Choice.{fourth, Choice, chosen, panel, written_pairs, reply, output}
use Rattle.carry.specs.Next.{remaining, next_lifts, next_sheet, words_needed}

-- a choice made again: its lift is kept, and nothing is drawn
abbrev pub again : Choice → Choice
again c = record { round = c.round; number = c.number; outcome = 1; values = [] }

-- some choices and the sheet that is written from them
pub record Carries (ls : List Lift) (cs : List Choice) : Type 0 where
  -- "Reading it back must yield exactly those rounds, measures and held lifts"
  pub back : lifts (next_sheet cs ls) ≡ next_lifts cs ls
  -- none of the refusals 1 to 10 and 16 applies
  pub fits : verdict (next_sheet cs ls) ≡ fits (length (remaining ls)) (length (in_use New ls))
  -- it has "the words needed", which are known before any draw
  pub long : length (next_sheet cs ls) ≡ words_needed ls (length (in_use New ls))
  -- "running it at once must keep every recorder and read no chance word", whatever words there are
  pub keeps : (ws : List ℕ) (start : ℕ) → panel fourth (next_lifts cs ls) ws start ≡ chosen (map again cs) start
  pub replies : (ws : List ℕ) (start room : ℕ) → start ≤ length ws → 2 * length cs ≤ room → reply fourth (next_sheet cs ls) ws start room ≡ replied (length cs) 0
  pub writes : (ws : List ℕ) (start : ℕ) (out : List ℕ) → start ≤ length ws → 2 * length cs ≤ length out
      → output fourth (next_sheet cs ls) ws start out ≡ written_pairs (map again cs) out

-- this holds for all random words, every start, and the choices that they give
abbrev pub CarriesAll : List Lift → Type 0
CarriesAll ls = (ws : List ℕ) (start next : ℕ) (cs : List Choice) → panel fourth ls ws start ≡ chosen cs next → Carries ls cs

-- proved: of all lifts that fit
abbrev pub CarriesTheorem : Type 0
CarriesTheorem = (ls : List Lift) → Fit ls → CarriesAll ls
