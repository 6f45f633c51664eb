-- Small sheets with what the document says of them, as one table to be computed. Its numbers are literals, so that none of them can change
-- in definition and code together.
use Rattle.std.specs.Prelude.{ℕ, ◌-◌, Bool, true, false, ◌&&◌, List, [], ◌∷◌, eqb}
use Rattle.reply.specs.Reply.{numbered}
use Rattle.sheet.specs.Sheet.{sheet_of}
use Rattle.sheet.specs.Worked.{lift, example, single, with_places}
use Rattle.tally.specs.Verdict.{Verdict, refused, fits, verdict}

abbrev same_verdict : Verdict → Verdict → Bool
same_verdict (refused x) (refused y) = eqb x.number y.number && eqb x.place y.place
same_verdict (refused x) (fits n k) = false
same_verdict (fits n k) (refused y) = false
same_verdict (fits n k) (fits m j) = eqb n m && eqb k j

-- a sheet, and the verdict on it
abbrev case : List ℕ → Verdict → Bool
case ws v = same_verdict (verdict ws) v

-- two lifts of old round 1 that make up its sum, and that of new round 1
abbrev sums : ℕ → ℕ → List ℕ
sums old new = sheet_of (lift 1 1 1 1 1 true ∷ lift 2 1 (old - 1) 1 (new - 1) false ∷ [])

-- lifts of old rounds 1, 70 and 100 sent to new round 5, the last with measure m
abbrev three : ℕ → List ℕ
three m = sheet_of (lift 1 1 1 5 1 true ∷ lift 2 70 1 5 1 true ∷ lift 3 100 m 5 1 false ∷ lift 4 100 1 0 0 true ∷ [])

abbrev pub cases : List Bool
cases =
    case example (fits 3 1)
    -- "A sheet of one end word with 0 lifts is accepted and has no choices."
    ∷ case (0xF0000000 ∷ []) (fits 0 0)
    -- round 100, and the largest measure; a withdrawn lift; lifts that were not counted
    ∷ case (0x1000000B ∷ 0x2C900000 ∷ 0x3C900000 ∷ 0x40000000 ∷ 0xF0000001 ∷ []) (fits 1 1)
    ∷ case (single 3 1 0 0) (fits 1 0)
    ∷ case (with_places 0x20200001 0x3C9FFFFF) (fits 1 1)
    ∷ case (sheet_of (lift 1 0 0 1 1 false ∷ lift 2 1 1 1 2097151 true ∷ [])) (fits 2 1)
    -- "the lift counts with its old measure", 0 too: sums of 1,048,576 and 1,048,577, and a sum of 0
    ∷ case (sheet_of (lift 1 1 1048575 1 2097151 true ∷ lift 2 0 0 1 1 false ∷ [])) (fits 2 1)
    ∷ case (sheet_of (lift 1 1 1048576 1 2097151 true ∷ lift 2 0 0 1 1 false ∷ [])) (refused (numbered 8 1))
    ∷ case (sheet_of (lift 1 1 1 1 1 true ∷ lift 2 1 0 4 2097151 false ∷ [])) (refused (numbered 9 4))
    -- "Order: 1; then the words one by one": their refusals come before 7, which round 9 would meet
    ∷ case (0x10000001 ∷ 0x21200001 ∷ 0x30200001 ∷ 0xF0000002 ∷ []) (refused (numbered 5 3))
    ∷ case (with_places 0x20000000 0x303FFFFF) (refused (numbered 16 2))
    ∷ case [] (refused (numbered 1 0))
    -- an old round without a held lift, one with two, one whose measures are all 0; the lowest round is the place
    ∷ case (sheet_of (lift 1 9 1 1 1 false ∷ lift 2 8 1 1 1 false ∷ [])) (refused (numbered 7 8))
    ∷ case (sheet_of (lift 1 9 1 1 1 true ∷ lift 2 9 1 1 1 true ∷ [])) (refused (numbered 7 9))
    ∷ case (sheet_of (lift 1 9 0 1 1 false ∷ [])) (refused (numbered 7 9))
    -- "Sum 1,048,576 passes, 1,048,577 is 8."
    ∷ case (sums 1048576 1048576) (fits 2 1)
    ∷ case (sums 1048577 1) (refused (numbered 8 1))
    ∷ case (sums 2 1048577) (refused (numbered 8 1))
    ∷ case (single 1 1 4 0) (refused (numbered 9 4))
    -- "each over all rounds rising before the next", "old rounds tried first"
    ∷ case (sheet_of (lift 1 1 1048576 1 1 true ∷ lift 2 1 1 1 1 false ∷ lift 3 9 1 1 1 false ∷ [])) (refused (numbered 7 9))
    ∷ case (sheet_of (lift 1 90 1048576 1 1048576 true ∷ lift 2 90 1 1 1 false ∷ [])) (refused (numbered 8 90))
    ∷ case (sheet_of (lift 1 0 0 9 1048576 false ∷ lift 2 0 0 9 1 false ∷ lift 3 0 0 1 0 false ∷ [])) (refused (numbered 8 9))
    ∷ case (sheet_of (lift 1 1 1 1 1 true ∷ lift 2 2 1 1 1 true ∷ lift 3 3 1 1 1 true ∷ lift 4 0 0 9 0 false ∷ [])) (refused (numbered 9 9))
    -- "Two donors pass, three are 10."
    ∷ case (three 0) (fits 4 1)
    ∷ case (three 1) (refused (numbered 10 5))
    ∷ []
