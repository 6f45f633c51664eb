-- The document's small rounds worked through, M1 to M11, as one table, and its figures; and the exact shares and keeping of small rounds: to
-- be computed.
use Rattle.std.specs.Prelude.{ℕ, ◌-◌, ◌^◌, Bool, ◌&&◌, List, [], ◌∷◌, map, eqb, get_or, Option, Some, None as Nothing}
use Rattle.probability.specs.Fraction.{◌//◌}
use Rattle.probability.specs.Table.{same, same_fraction}
use Rattle.draw.specs.Draw.{largest, draw_at}
use Rattle.draw.specs.Worked.{same_drawn}
use Rattle.round.specs.Round.{lift_at, S, D, weights, G}
use Rattle.probability.specs.Initial.{Initial, here, elsewhere}
use Rattle.round.specs.Choice.{keyfitz, is_held, outcome, selected}
use Rattle.round.specs.Share.{round_share}
use Rattle.round.specs.Keep.{round_kept, tickets, kept_tickets}
use Rattle.round.specs.Rows.{lift_of_measures}
use Rattle.round.specs.declared.Donors.{Donors}
use Rattle.round.specs.declared.Donors.TheVariants.{None, One, Two}
use Rattle.round.specs.declared.Lift.{Lift}
use Rattle.round.specs.declared.Selection.{Selection}

-- the place of the chosen lift, the outcome, and the position behind the last word read
abbrev chose : ℕ → ℕ → ℕ → List ℕ
chose i o n = i ∷ o ∷ n ∷ []

abbrev out_of_words : List ℕ
out_of_words = []

abbrev numbers_of : List Initial → Option (Selection × ℕ) → List ℕ
numbers_of xs (Some (s, n)) = chose s.place (outcome (is_held xs s.place) s.dropped) n
numbers_of xs Nothing = out_of_words

-- a round, where its donors' held lifts are and random words, and the choice
abbrev chosen : Donors → List Lift → List Initial → List ℕ → List ℕ → Bool
chosen ds ls xs ws a = same (numbers_of xs (selected ds ls xs ws 0)) a

-- a bound and random words, and what a draw finds
abbrev drawn : ℕ → List ℕ → Option (ℕ × ℕ) → Bool
drawn b ws a = same_drawn (draw_at largest ws 0 b) a

-- "Lifts 11, 12, 13, old 2, 3, 5, new 4, 1, 5"
abbrev three : List Lift
three = lift_of_measures 2 1 4 ∷ lift_of_measures 3 1 1 ∷ lift_of_measures 5 1 5 ∷ []

-- "Lift 21 (m 1, T1 4) and 22 (m 3, T2 6), b 1 and 1"
abbrev two : List Lift
two = lift_of_measures 1 1 1 ∷ lift_of_measures 3 2 1 ∷ []

-- "Old 3, 7, new 0, 1"
abbrev no_chance : List Lift
no_chance = lift_of_measures 3 1 0 ∷ lift_of_measures 7 1 1 ∷ []

-- a round, and its old and new weights
abbrev weighs : Donors → List Lift → List ℕ → List ℕ → Bool
weighs ds ls olds news = same (map (λ w. w.old) (weights ds ls)) olds && same (map (λ w. w.new) (weights ds ls)) news

-- "old weights 20, 30, 50, new 40, 10, 50, G 20" and "D 18, old weights 12 and 24, new 18 and 18"
abbrev pub figure_cases : List Bool
figure_cases =
    weighs (One 10) three (20 ∷ 30 ∷ 50 ∷ []) (40 ∷ 10 ∷ 50 ∷ [])
    ∷ eqb (G (weights (One 10) three)) 20
    ∷ eqb (D (Two 4 6) two) 18
    ∷ weighs (Two 4 6) two (12 ∷ 24 ∷ []) (18 ∷ 18 ∷ [])
    ∷ []

-- a newcomer of measure 1, alone
abbrev alone : List Lift
alone = lift_of_measures 0 0 1 ∷ []

-- the first shrinks, both others grow: old weights 24, 6, 6, new 6, 12, 18, growths above zero 6 and 12, G 18
abbrev both_grow : List Lift
both_grow = lift_of_measures 4 1 1 ∷ lift_of_measures 1 1 2 ∷ lift_of_measures 1 1 3 ∷ []

-- M1 to M11 in the document's order, M11, "always dropped", for each r; then sentences of it that no M shows
abbrev pub cases : List Bool
cases =
    chosen (One 10) three (here 1 ∷ []) (9 ∷ []) (chose 1 1 1)
    ∷ chosen (One 10) three (here 1 ∷ []) (10 ∷ 0 ∷ []) (chose 0 2 2)
    ∷ chosen (One 10) three (here 2 ∷ []) [] (chose 2 1 0)
    ∷ drawn 3 ((2 ^ 64 - 1) ∷ []) Nothing
    ∷ drawn 3 ((2 ^ 64 - 2) ∷ []) (Some (2, 1))
    ∷ chosen (Two 4 6) two (here 0 ∷ here 1 ∷ []) (11 ∷ []) (chose 0 1 1)
    ∷ chosen (Two 4 6) two (here 0 ∷ here 1 ∷ []) (12 ∷ 17 ∷ []) (chose 1 1 2)
    ∷ chosen (Two 4 6) two (here 0 ∷ here 1 ∷ []) (12 ∷ 18 ∷ 5 ∷ []) (chose 0 1 3)
    ∷ chosen (Two 4 6) two (elsewhere ∷ elsewhere ∷ []) (1 ∷ []) (chose 1 3 1)
    ∷ chosen (Two 4 6) two (elsewhere ∷ here 1 ∷ []) (18 ∷ 0 ∷ []) (chose 0 2 2)
    ∷ chosen (One 10) no_chance (here 0 ∷ []) (0 ∷ 0 ∷ []) (chose 1 2 2)
    ∷ chosen (One 10) no_chance (here 0 ∷ []) (1 ∷ 0 ∷ []) (chose 1 2 2)
    ∷ chosen (One 10) no_chance (here 0 ∷ []) (2 ∷ 0 ∷ []) (chose 1 2 2)
    -- "A draw below 1 uses a word too."
    ∷ chosen None alone [] [] out_of_words
    ∷ chosen None alone [] (5 ∷ []) (chose 0 3 1)
    -- "it stays if r is less than its new weight", which is 6: r is 5, and in the cases after this one 6
    ∷ chosen (One 6) both_grow (here 0 ∷ []) (29 ∷ []) (chose 0 1 1)
    -- "draw q below G and take the lift in whose stretch q falls, the growths above zero laid end to end in lift order": q is 5, and 6
    ∷ chosen (One 6) both_grow (here 0 ∷ []) (30 ∷ 23 ∷ []) (chose 1 2 2)
    ∷ chosen (One 6) both_grow (here 0 ∷ []) (30 ∷ 24 ∷ []) (chose 2 2 2)
    ∷ []

-- the lift at place j has exactly b over S
abbrev shares : Donors → List Lift → ℕ → Bool
shares ds ls j = same_fraction (round_share keyfitz ds ls j) ((lift_at ls j).new // S ls)

-- old 1, 2, new 2, 1, of one donor: the first lift grows, the second shrinks
abbrev pub exchanged : List Lift
exchanged = lift_of_measures 1 1 2 ∷ lift_of_measures 2 1 1 ∷ []

-- old 1, 1, new 2, 1, of two donors
abbrev of_two_donors : List Lift
of_two_donors = lift_of_measures 1 1 2 ∷ lift_of_measures 1 2 1 ∷ []

-- where each donor has a lift elsewhere
abbrev pub share_cases : List Bool
share_cases =
    shares (One 4) exchanged 0 ∷ shares (One 4) exchanged 1 ∷ shares (Two 2 3) of_two_donors 0 ∷ shares (Two 2 3) of_two_donors 1 ∷ []

-- "held lift by chosen lift": a coupling of the old weights 3 and 6 with the new weights 6 and 3, where the donor lost nothing
abbrev pub rule : ℕ → ℕ → ℕ
rule i j = get_or (get_or ((3 ∷ 0 ∷ []) ∷ (3 ∷ 3 ∷ []) ∷ []) i []) j 0

-- "It keeps the tickets where both lifts are one.": 6 of 9, and so much "the ways weigh whose lift is held in their own marking"
abbrev pub keeping_cases : List Bool
keeping_cases = eqb (tickets 2 rule) 9 ∷ eqb (kept_tickets 2 rule) 6 ∷ same_fraction (round_kept keyfitz (One 3) exchanged) (6 // 9) ∷ []
