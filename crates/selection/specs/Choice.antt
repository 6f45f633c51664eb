-- The whole choice, by any way of choosing in a round; the fourth procedure is "One round" of document 01 for each new round, "in rising
-- order, each reading on where the one before stopped".
use Rattle.std.specs.Prelude.{ℕ, ◌+◌, ◌*◌, ◌-◌, ◌^◌, cond, false, List, [], ◌∷◌, ◌++◌, map, Option, None, Some, ltb, length, get_or, set, drop, replicate}
use Rattle.probability.specs.Plan.{Plan}
use Rattle.draw.specs.Draw.{largest}
use Rattle.draw.specs.Run.{Run, finished, short as ended, run}
use Rattle.round.specs.Rows.{lift_of_measures}
use Rattle.round.specs.Choice.{Update, keyfitz, plan_by, outcome}
use Rattle.round.specs.declared.Selection.{Selection}
use Rattle.probability.specs.Initial.{Initial}
use Rattle.round.specs.declared.Donors.{Donors}
use Rattle.round.specs.declared.Donors.TheVariants.{None as NoDonor, One, Two}
use Rattle.round.specs.declared.Lift.{Lift as RoundLift}
use Rattle.sheet.specs.Sheet.{most_rounds, Lift, lifts, word}
use Rattle.reply.specs.Reply.{numbered, replied, of_refusal, unless_refused}
use Rattle.reply.specs.declared.Reply.{Reply}
use Rattle.sheet.specs.Lift.{place_at, Old, New}
use Rattle.tally.specs.Rounds.{in_use, sum_of, donors, donor_number, of_round, held_at}
use Rattle.tally.specs.Verdict.{crowded, verdict_by, of_verdict}
use Rattle.reply.specs.declared.Refusal.{Refusal}
use Rattle.selection.specs.declared.Pick.{Pick}

-- ---- one round of a sheet

-- donors by their whole old sums, of which there are at most two
abbrev pub with_sums : List ℕ → Donors
with_sums [] = NoDonor
with_sums (T ∷ []) = One T
with_sums (T₁ ∷ T₂ ∷ Ts) = Two T₁ T₂

-- the donors of new round r: "T is the donor's whole old sum, lifts gone elsewhere included."
unfoldable pub donors_of : ℕ → List Lift → Donors
donors_of r ls = with_sums (map (λ t. sum_of Old t ls) (donors r ls))

-- a lift as its new round has it: its old and new measures, and the number of its donor, by a numbering of old rounds
abbrev pub in_round : (ℕ → ℕ) → Lift → RoundLift
in_round number l = lift_of_measures l.old.measure (number l.old.round) (place_at New l).measure

-- the lifts of new round r
unfoldable pub lifts_of : ℕ → List Lift → List RoundLift
lifts_of r ls = map (in_round (donor_number (donors r ls))) (of_round r ls)

-- where the held lifts of the donors of new round r are, in the order of the donors' numbers
unfoldable pub held_of_round : ℕ → List Lift → List Initial
held_of_round r ls = map (λ t. held_at t (of_round r ls)) (donors r ls)

-- the choice of new round r by an update: "What it chooses depends only on its own lifts, its donors' sums and held lifts, and the
-- chance words"
unfoldable pub plan_of : Update → ℕ → List Lift → Plan Selection
plan_of update r ls = plan_by update (donors_of r ls) (lifts_of r ls) (held_of_round r ls)

-- stands where there is no lift
abbrev pub no_lift : Lift
no_lift = record { number = 0; old = record { round = 0; measure = 0 }; new = record { round = 0; measure = 0 }; held = false }

-- the lift at a place of new round r
unfoldable pub lift_in_round : ℕ → List Lift → ℕ → Lift
lift_in_round r ls i = get_or (of_round r ls) i no_lift

-- ---- a way of choosing

-- what is refused of a sheet's lifts behind 9, and the plan of each new round, from its number and the lifts
pub record Way : Type 0 where
  pub refuses : List Lift → List Refusal
  pub plan : ℕ → List Lift → Plan Selection

-- the way by an update of the preliminary lift; 10 is refused behind 9
abbrev pub by_update : Update → Way
by_update update = record { refuses = crowded; plan = plan_of update }

-- the fourth procedure of document 002, with Keyfitz's replacement by growth
abbrev pub fourth : Way
fourth = by_update keyfitz

-- ---- all rounds

-- what was chosen in a round: the lift's number, the outcome, and the values drawn
pub record Choice : Type 0 where
  pub round : ℕ
  pub number : ℕ
  pub outcome : ℕ
  pub values : List ℕ

-- the choices of all rounds and the next position; or the round in which the words ended
pub data Panel : Type 0 where
  chosen : List Choice → ℕ → Panel
  short : ℕ → Panel

-- a panel with one more choice before its others
abbrev pub preceded : Choice → Panel → Panel
preceded c (chosen cs next) = chosen (c ∷ cs) next
preceded c (short r) = short r

-- the choice of a lift of new round r: the outcome goes by the lift's own mark
abbrev pub choice_of : ℕ → List Lift → List ℕ → Selection → Choice
choice_of r ls vs s =
    let l = lift_in_round r ls s.place in record { round = r; number = l.number; outcome = outcome l.held s.dropped; values = vs }

-- after the run of a round, the panel of the rounds that follow
abbrev pub and_then : ℕ → List Lift → Run Selection → (ℕ → Panel) → Panel
and_then r ls (finished vs s next) k = preceded (choice_of r ls vs s) (k next)
and_then r ls ended k = short r

-- "New rounds that some lift names are done in rising order, each reading on where the one before stopped."
unfoldable pub panel_from : Way → List Lift → List ℕ → ℕ → List ℕ → Panel
panel_from way ls ws from [] = chosen [] from
panel_from way ls ws from (r ∷ rs) = and_then r ls (run largest ws from (way.plan r ls)) (λ next. panel_from way ls ws next rs)

abbrev pub panel : Way → List Lift → List ℕ → ℕ → Panel
panel way ls ws start = panel_from way ls ws start (in_use New ls)

-- the lift chosen, as the code keeps it
abbrev pub pick_of : Choice → Pick
pick_of c = record { number = c.number; outcome = c.outcome }

-- a table by round with each choice's lift at the place of its round
unfoldable pub by_round : List Choice → List (Option Pick) → List (Option Pick)
by_round [] table = table
by_round (c ∷ cs) table = by_round cs (set table c.round (Some (pick_of c)))

-- a table without any
abbrev pub none_chosen : List (Option Pick)
none_chosen = replicate (most_rounds + 1) None

-- ---- the reply and the output

-- "13. The chance words end before a needed draw is finished. Place: the new round."
abbrev pub of_panel : ℕ → Panel → Reply
of_panel start (chosen cs next) = replied (length cs) (next - start)
of_panel start (short r) = of_refusal (numbered 13 r)

-- "11. Start position above the number of chance words. Place: the start."
-- "12. Output shorter than the choices need. Place: the words needed."
abbrev pub unless_lacking : (rounds words start room : ℕ) → Reply → Reply
unless_lacking rounds words start room otherwise =
    cond (ltb words start) (of_refusal (numbered 11 start)) (cond (ltb room (2 * rounds)) (of_refusal (numbered 12 (2 * rounds))) otherwise)

abbrev pub of_lent : Way → List Lift → ℕ → List ℕ → ℕ → ℕ → Reply
of_lent way ls rounds ws start room = unless_lacking rounds (length ws) start room (of_panel start (panel way ls ws start))

-- the reply to a sheet, random words, a start position and an output of `room` words
unfoldable pub reply : Way → List ℕ → List ℕ → ℕ → ℕ → Reply
reply way sheet ws start room = of_verdict (verdict_by way.refuses sheet) (λ rounds. of_lent way (lifts sheet) rounds ws start room)

-- "kind 5 (upper 7 bits round, lower 21 outcome)"
abbrev pub round_word : ℕ → ℕ → ℕ
round_word round outcome = word 5 (round * 2 ^ 21 + outcome)

-- "kind 6 (lift number)"
abbrev pub lift_word : ℕ → ℕ
lift_word number = word 6 number

-- "The output holds two words a round"
abbrev pub pair : ℕ → ℕ → ℕ → List ℕ
pair round number outcome = round_word round outcome ∷ lift_word number ∷ []

abbrev pub pair_of : Choice → List ℕ
pair_of c = pair c.round c.number c.outcome

-- "Each round's pair is written to its own part of the output; words behind the last pair keep what they had."
unfoldable pub written_pairs : List Choice → List ℕ → List ℕ
written_pairs [] out = out
written_pairs (c ∷ cs) out = pair_of c ++ written_pairs cs (drop 2 out)

abbrev pub written_panel : Panel → List ℕ → List ℕ
written_panel (chosen cs next) out = written_pairs cs out
written_panel (short r) out = out

-- the output after the call
unfoldable pub output : Way → List ℕ → List ℕ → ℕ → List ℕ → List ℕ
output way sheet ws start out = unless_refused (reply way sheet ws start (length out)) out (written_panel (panel way (lifts sheet) ws start) out)
