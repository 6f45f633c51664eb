-- Demand 3: "What demand 3 weighs" of document 01, for any way of choosing.
use Rattle.std.specs.Prelude.{ℕ, ◌+◌, ◌*◌, ◌<◌, ◌≡◌, length, get_or}
use mathlib.Core.List.{List, [], ◌∷◌, map, Memᴰ}
use Rattle.std.proofs.Math.Seq.{slice}
use Rattle.probability.specs.Fraction.{Fraction, ◌//◌, ◌≈◌}
use Rattle.probability.specs.Plan.{Path, paths, weight}
use Rattle.round.specs.Round.{U, D, weights}
use Rattle.round.specs.Choice.{Update}
use Rattle.round.specs.declared.Selection.{Selection}
use Rattle.round.specs.Share.{chooses, Exact, Staying}
use Rattle.round.specs.Keep.{Best}
use Rattle.sheet.specs.Sheet.{Lift, sheet_of}
use Rattle.sheet.specs.Lift.{place_at, Old, New}
use Rattle.tally.specs.Rounds.{in_use, sum_of, donors, of_round}
use Rattle.tally.specs.Verdict.{fits, verdict_by}
use Rattle.reply.specs.Reply.{replied}
use Rattle.tally.specs.Law.{FitBy, Fit}
use Rattle.selection.specs.Choice.{donors_of, lifts_of, lift_in_round, Way, by_update, choice_of, Panel, chosen, short, panel, reply, pair_of, output}
use Rattle.selection.specs.Initial.{selections, marked, mean_over_selections}

-- the total weight, over all initial selections, of the paths that choose the lift at place j of round r: "The way weighs the product
-- of the held lifts' old measures over the product of all old sums, divided by the W of each of its draws."
unfoldable pub share : Way → List Lift → ℕ → ℕ → Fraction
share way ls r j = mean_over_selections ls (λ ms. weight (chooses j) (paths (way.plan r ms)))

-- "what the ways weigh whose lift is held in their own marking"
unfoldable pub kept : Way → List Lift → ℕ → Fraction
kept way ls r = mean_over_selections ls (λ ms. weight (λ s. (lift_in_round r ms s.place).held) (paths (way.plan r ms)))

-- the values drawn in each round, rising
abbrev pub draws : Panel → List (List ℕ)
draws (chosen cs next) = map (λ c. c.values) cs
draws (short r) = []

-- "the output gives it for this round whenever the sheet so marked is run, not refused, and the round's draws have those values": the
-- pair written for this round, the i-th, has the path's lift and outcome
abbrev pub Runs : Way → List Lift → ℕ → Type 0
Runs way ls r =
    (m : List Lift) → Memᴰ m (selections ls) → (p : Path Selection) → Memᴰ p (paths (way.plan r (marked m ls)))
    → (ws : List ℕ) (start : ℕ) (out : List ℕ) (n k : ℕ) → reply way (sheet_of (marked m ls)) ws start (length out) ≡ replied n k
    → (i : ℕ) → get_or (in_use New ls) i 0 ≡ r → get_or (draws (panel way (marked m ls) ws start)) i [] ≡ p.values
    → slice (2 * i) (2 * i + 2) (output way (sheet_of (marked m ls)) ws start out) ≡ pair_of (choice_of r (marked m ls) p.values p.result)

-- what is proved of a way of choosing, of lifts that fit it, as those of every fitting sheet do, and of each of their new rounds
pub record FairRound (way : Way) (ls : List Lift) (r : ℕ) : Type 0 where
  -- "For each lift of the round, b = 0 included, the ways that have it as their lift weigh together exactly b over S."
  pub shares : (j : ℕ) → j < length (of_round r ls) → share way ls r j ≈ (place_at New (lift_in_round r ls j)).measure // sum_of New r ls
  pub runs : Runs way ls r
  -- "In a round with one donor and U = T, every rule keeps at most as many tickets as all its tickets times what the ways weigh whose
  -- lift is held in their own marking." And some rule keeps as many: the program's choice is the best there is.
  pub best : (t : ℕ) → donors r ls ≡ t ∷ [] → U 1 (lifts_of r ls) ≡ sum_of Old t ls
      → Best (weights (donors_of r ls) (lifts_of r ls)) (D (donors_of r ls) (lifts_of r ls) * sum_of New r ls) (kept way ls r)

pub record Fair (way : Way) (ls : List Lift) : Type 0 where
  pub rounds : (r : ℕ) → Memᴰ r (in_use New ls) → FairRound way ls r
  -- the sheet so marked fits too
  pub fits : (m : List Lift) → Memᴰ m (selections ls)
      → verdict_by way.refuses (sheet_of (marked m ls)) ≡ fits (length ls) (length (in_use New ls))
  -- the selections weigh 1 together
  pub whole : mean_over_selections ls (λ _. 1 // 1) ≈ 1 // 1

-- proved: of every way, and of all lifts that fit it
abbrev pub RunsTheorem : Type 0
RunsTheorem = (way : Way) (ls : List Lift) → FitBy way.refuses ls → (r : ℕ) → Memᴰ r (in_use New ls) → Runs way ls r

-- proved: of the way by every exact and staying update, and of all lifts that fit
abbrev pub FairTheorem : Type 0
FairTheorem = (update : Update) → Exact update → Staying update → (ls : List Lift) → Fit ls → Fair (by_update update) ls
