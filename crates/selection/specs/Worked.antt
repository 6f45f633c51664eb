-- Small sheets with what is replied and written, as tables to be computed: the document's small rounds worked through, M1 to M11, and the
-- refusals because of what was lent; lifts that were not counted; all with their numbers and words as literals; and the exact shares and
-- keeping of small sheets.
use Rattle.std.specs.Prelude.{ℕ, ◌-◌, ◌^◌, Bool, true, false, not, ◌&&◌, List, [], ◌∷◌, eqb, length}
use Rattle.probability.specs.Fraction.{◌//◌}
use Rattle.probability.specs.Table.{same, same_fraction}
use Rattle.sheet.specs.Sheet.{Lift, sheet_of}
use Rattle.reply.specs.Reply.{numbers, same_reply}
use Rattle.reply.specs.declared.Reply.{Reply}
use Rattle.sheet.specs.Worked.{lift, example}
use Rattle.selection.specs.Choice.{fourth, reply, output}
use Rattle.selection.specs.Fair.{share, kept}

-- a sheet, random words, a start and an output, the reply, and the output after the call
abbrev case : List ℕ → List ℕ → ℕ → List ℕ → Reply → List ℕ → Bool
case sheet ws start out r after = same_reply (reply fourth sheet ws start (length out)) r && same (output fourth sheet ws start out) after

-- one choice from the first word on, with the number of words read, and a word behind the pair that stays
abbrev choice : List ℕ → List ℕ → ℕ → ℕ → ℕ → Bool
choice sheet ws read first second = case sheet ws 0 (7 ∷ 8 ∷ 9 ∷ []) (numbers 0 1 read) (first ∷ second ∷ 9 ∷ [])

-- a refusal: the output keeps what it had
abbrev refused : List ℕ → List ℕ → ℕ → List ℕ → ℕ → ℕ → Bool
refused sheet ws start out n place = case sheet ws start out (numbers n place 0) out

-- "Lifts 11, 12, 13, old 2, 3, 5, new 4, 1, 5", the lift of a number held
abbrev three : ℕ → List ℕ
three n = sheet_of (lift 11 1 2 1 4 (eqb n 11) ∷ lift 12 1 3 1 1 (eqb n 12) ∷ lift 13 1 5 1 5 (eqb n 13) ∷ [])

-- three newcomers of measure 1: a draw below 3
abbrev newcomers : List ℕ
newcomers = sheet_of (lift 1 0 0 1 1 false ∷ lift 2 0 0 1 1 false ∷ lift 3 0 0 1 1 false ∷ [])

-- "Lift 21 (m 1, T1 4) and 22 (m 3, T2 6), b 1 and 1", held or not; what is left of both old rounds is withdrawn
abbrev two : Bool → Bool → List Lift
two h k =
    lift 21 1 1 1 1 h ∷ lift 22 2 3 1 1 k ∷ lift 23 1 3 0 0 (not h) ∷ lift 24 2 3 0 0 (not k) ∷ []

-- "Old 3, 7, new 0, 1, first held"
abbrev no_chance : List ℕ
no_chance = sheet_of (lift 1 1 3 1 0 true ∷ lift 2 1 7 1 1 false ∷ [])

-- new rounds 3 and 70: the second chooses among two newcomers
abbrev two_rounds : List ℕ
two_rounds = sheet_of (lift 1 1 3 3 0 true ∷ lift 2 1 7 3 1 false ∷ lift 3 0 0 70 1 false ∷ lift 4 0 0 70 1 false ∷ [])

-- a new round of three donors
abbrev three_donors : List ℕ
three_donors = sheet_of (lift 1 1 1 4 1 true ∷ lift 2 2 1 4 1 true ∷ lift 3 3 1 4 1 true ∷ [])

abbrev pub cases : List Bool
cases =
    -- M1 to M11 in the document's order; M2 is the document's whole sheet; M11, "always dropped", for each r
    choice (three 12) (9 ∷ []) 1 0x50200001 0x6000000C
    ∷ choice example (10 ∷ 0 ∷ []) 2 0x50200002 0x6000000B
    ∷ choice (three 13) [] 0 0x50200001 0x6000000D
    ∷ choice newcomers ((2 ^ 64 - 1) ∷ 1 ∷ []) 2 0x50200003 0x60000002
    ∷ choice newcomers ((2 ^ 64 - 2) ∷ []) 1 0x50200003 0x60000003
    ∷ choice (sheet_of (two true true)) (11 ∷ []) 1 0x50200001 0x60000015
    ∷ choice (sheet_of (two true true)) (12 ∷ 17 ∷ []) 2 0x50200001 0x60000016
    ∷ choice (sheet_of (two true true)) (12 ∷ 18 ∷ 5 ∷ []) 3 0x50200001 0x60000015
    ∷ choice (sheet_of (two false false)) (1 ∷ []) 1 0x50200003 0x60000016
    ∷ choice (sheet_of (two false true)) (18 ∷ 0 ∷ []) 2 0x50200002 0x60000015
    ∷ choice no_chance (0 ∷ 0 ∷ []) 2 0x50200002 0x60000002
    ∷ choice no_chance (1 ∷ 0 ∷ []) 2 0x50200002 0x60000002
    ∷ choice no_chance (2 ∷ 0 ∷ []) 2 0x50200002 0x60000002
    -- "in rising order, each reading on where the one before stopped", from a start on; "words behind the last pair .. keep what they had"
    ∷ case two_rounds (5 ∷ 0 ∷ 0 ∷ 1 ∷ []) 1 (5 ∷ 6 ∷ 7 ∷ 8 ∷ 9 ∷ [])
    (numbers 0 2 3) (0x50600002 ∷ 0x60000002 ∷ 0x58C00003 ∷ 0x60000004 ∷ 9 ∷ [])
    -- 11 before 12, where no word is needed; 12 before 13, and where the words suffice; "13. The chance words end before a needed draw is
    -- finished. Place: the new round."
    ∷ refused (three 13) (0 ∷ []) 2 [] 11 2
    ∷ refused (three 13) (0 ∷ []) 2 (7 ∷ 8 ∷ []) 11 2
    ∷ refused two_rounds (0 ∷ []) 1 (7 ∷ 8 ∷ 9 ∷ []) 12 4
    ∷ refused two_rounds (0 ∷ 0 ∷ 1 ∷ []) 0 (7 ∷ 8 ∷ 9 ∷ []) 12 4
    ∷ refused two_rounds (0 ∷ []) 1 (6 ∷ 7 ∷ 8 ∷ 9 ∷ []) 13 3
    ∷ refused two_rounds (0 ∷ 0 ∷ []) 0 (6 ∷ 7 ∷ 8 ∷ 9 ∷ []) 13 70
    -- those of the sheet before them: 1, and 10 too
    ∷ refused [] [] 1 [] 1 0
    ∷ refused three_donors [] 1 [] 10 4
    ∷ []

-- the three lifts with these new measures, 12 held; 2,097,151 being "not counted"
abbrev with_measures : ℕ → ℕ → ℕ → List ℕ
with_measures a b c = sheet_of (lift 11 1 2 1 a false ∷ lift 12 1 3 1 b true ∷ lift 13 1 5 1 c false ∷ [])

abbrev pub silent_cases : List Bool
silent_cases =
    -- "the lift counts with its old measure": no word is read where none was counted, and none where the others' sum stays
    choice (with_measures 2097151 2097151 2097151) [] 0 0x50200001 0x6000000C
    ∷ choice (with_measures 1 2097151 6) [] 0 0x50200001 0x6000000C
    -- S is 12, and T 10: 12 stays by 30 of its 36
    ∷ choice (with_measures 4 2097151 2097151) (29 ∷ []) 1 0x50200001 0x6000000C
    ∷ choice (with_measures 4 2097151 2097151) (30 ∷ 0 ∷ []) 2 0x50200002 0x6000000B
    -- 16, like 1 to 10, before 11 to 13
    ∷ refused (0x1000000B ∷ 0x20000000 ∷ 0x303FFFFF ∷ 0xF0000001 ∷ []) [] 1 [] 16 2
    ∷ []

-- lifts of old round 1, of which one goes elsewhere, and one of old round 2, in new round 1: one grows, another shrinks
abbrev small : List Lift
small = lift 1 1 1 1 2 true ∷ lift 2 2 1 1 1 false ∷ lift 3 1 1 2 1 false ∷ lift 4 2 2 0 0 true ∷ []

-- old 1, 2, new 2, 1 in one round: old weights 3 and 6, new 6 and 3
abbrev exchanged : List Lift
exchanged = lift 1 1 1 1 2 true ∷ lift 2 1 2 1 1 false ∷ []

-- old 1, 2, new 4 and not counted: S is 6, old weights 6 and 12, new 12 and 6
abbrev silent : List Lift
silent = lift 1 1 1 1 4 true ∷ lift 2 1 2 1 2097151 false ∷ []

-- each lift of each new round has exactly b over S
abbrev pub share_cases : List Bool
share_cases =
    same_fraction (share fourth small 1 0) (2 // 3)
    ∷ same_fraction (share fourth small 1 1) (1 // 3)
    ∷ same_fraction (share fourth small 2 0) (1 // 1)
    ∷ same_fraction (share fourth silent 1 0) (4 // 6)
    ∷ same_fraction (share fourth silent 1 1) (2 // 6)
    ∷ []

-- "what the ways weigh whose lift is held in their own marking"
abbrev pub keeping_cases : List Bool
keeping_cases = same_fraction (kept fourth exchanged 1) (6 // 9) ∷ same_fraction (kept fourth silent 1) (12 // 18) ∷ []
