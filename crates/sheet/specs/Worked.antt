-- Words with what the document says of them, and what counts of a lift, as one table to be computed. Its numbers are literals, so that none
-- of them can change in definition and code together.
use Rattle.std.specs.Prelude.{ℕ, Bool, true, false, ◌&&◌, List, [], ◌∷◌, ◌++◌, eqb, replicate}
use Rattle.reply.specs.Reply.{numbered}
use Rattle.sheet.specs.Sheet.{Lift, sheet_of}
use Rattle.sheet.specs.Reading.{ScanState, fault, Reading, faulty, sound, of_words}
use Rattle.sheet.specs.Lift.{place_at, Old, New}

abbrev same_reading : Reading → Reading → Bool
same_reading (faulty x) (faulty y) = eqb x.number y.number && eqb x.place y.place
same_reading (faulty x) sound = false
same_reading sound (faulty y) = false
same_reading sound sound = true

-- words, and how they are read
abbrev case : List ℕ → Reading → Bool
case ws r = same_reading (of_words ws) r

-- a lift by its number, old place, new place and whether it is held
abbrev pub lift : ℕ → ℕ → ℕ → ℕ → ℕ → Bool → Lift
lift n t m r b h = record { number = n; old = record { round = t; measure = m }; new = record { round = r; measure = b }; held = h }

-- the document's sheet: lifts 11, 12 and 13, 12 held
abbrev pub example : List ℕ
example =
    0x1000000B ∷ 0x20200002 ∷ 0x30200004 ∷ 0x1000000C ∷ 0x20200003 ∷ 0x30200001 ∷ 0x40000000 ∷ 0x1000000D ∷ 0x20200005 ∷ 0x30200005 ∷ 0xF0000003 ∷ []

-- one lift from old round t of measure m to new round r of measure b, held
abbrev pub single : ℕ → ℕ → ℕ → ℕ → List ℕ
single t m r b = sheet_of (lift 1 t m r b true ∷ [])

-- one held lift with these words for its places
abbrev pub with_places : ℕ → ℕ → List ℕ
with_places old new = 0x1000000B ∷ old ∷ new ∷ 0x40000000 ∷ 0xF0000001 ∷ []

abbrev pub cases : List Bool
cases =
    case example sound
    -- "A sheet of one end word with 0 lifts is accepted and has no choices."
    ∷ case (0xF0000000 ∷ []) sound
    -- "1. Length 0 or above 12,389 words. Place: the length."
    ∷ case [] (faulty (numbered 1 0))
    ∷ case (replicate 12389 0) (faulty (numbered 2 0))
    ∷ case (replicate 12390 0) (faulty (numbered 1 12390))
    -- "no end (place: the length)", "a word after the end"
    ∷ case (0x1000000B ∷ 0x20200002 ∷ []) (faulty (numbered 2 2))
    ∷ case (example ++ (0xF0000003 ∷ [])) (faulty (numbered 2 11))
    -- "2 before the others": a word out of sequence that is also 3, 4, 5 or 6
    ∷ case (0x1000000B ∷ 0x10000000 ∷ []) (faulty (numbered 2 1))
    ∷ case (0x1000000B ∷ 0x30000001 ∷ []) (faulty (numbered 2 1))
    ∷ case (0x1000000B ∷ 0xF0000009 ∷ []) (faulty (numbered 2 1))
    ∷ case (0x1000000B ∷ 0x40000001 ∷ []) (faulty (numbered 2 1))
    -- "the first faulty word deciding": 6 at word 3 before 2 at word 4
    ∷ case (0x1000000B ∷ 0x20200000 ∷ 0x30200001 ∷ 0x40000000 ∷ 0 ∷ []) (faulty (numbered 6 3))
    -- "3. Lift number 0 or not above the one before."
    ∷ case (0x10000000 ∷ []) (faulty (numbered 3 0))
    ∷ case (sheet_of (lift 5 0 0 1 1 false ∷ lift 5 0 0 1 1 false ∷ [])) (faulty (numbered 3 3))
    -- "4. Round above 100, measure above 1,048,576": both at their bounds, and one beyond
    ∷ case (0x1000000B ∷ 0x2C900000 ∷ 0x3C900000 ∷ 0x40000000 ∷ 0xF0000001 ∷ []) sound
    ∷ case (0x1000000B ∷ 0x2CA00001 ∷ []) (faulty (numbered 4 1))
    ∷ case (0x1000000B ∷ 0x2C900001 ∷ []) (faulty (numbered 4 1))
    ∷ case (single 100 1 101 1) (faulty (numbered 4 2))
    ∷ case (single 1 1 1 1048577) (faulty (numbered 4 2))
    -- "Round 0 in an old place is a newcomer, in a new place a withdrawn lift, and its measure is then 0."
    ∷ case (single 3 1 0 0) sound
    ∷ case (single 3 1 0 1) (faulty (numbered 4 2))
    -- "the lower 21 bits of a new place, all ones, mean 'not counted'": in rounds 1 and 100; one less is a measure
    ∷ case (with_places 0x20200001 0x303FFFFF) sound
    ∷ case (with_places 0x20200001 0x3C9FFFFF) sound
    ∷ case (with_places 0x20200001 0x303FFFFE) (faulty (numbered 4 2))
    -- "Refusal 4 no longer meets that value in a new place with a real round": in round 0, round 101 and an old place it does
    ∷ case (with_places 0x20200001 0x301FFFFF) (faulty (numbered 4 2))
    ∷ case (with_places 0x20200001 0x3CBFFFFF) (faulty (numbered 4 2))
    ∷ case (with_places 0x203FFFFF 0x30200001) (faulty (numbered 4 1))
    -- "16 when a newcomer is not counted; place the word, wherever 4 is checked, after it"
    ∷ case (with_places 0x20000000 0x303FFFFF) (faulty (numbered 16 2))
    ∷ case (with_places 0x20000000 0x3C9FFFFF) (faulty (numbered 16 2))
    ∷ case (with_places 0x20000000 0x301FFFFF) (faulty (numbered 4 2))
    ∷ case (with_places 0x20000000 0x3CBFFFFF) (faulty (numbered 4 2))
    -- the first faulty word decides here too; 2 comes first; each lift goes by its own old round
    ∷ case (0x1000000B ∷ 0x20000000 ∷ 0x303FFFFF ∷ 0 ∷ []) (faulty (numbered 16 2))
    ∷ case (0x1000000B ∷ 0x303FFFFF ∷ []) (faulty (numbered 2 1))
    ∷ case (sheet_of (lift 1 0 0 1 1 false ∷ lift 2 1 1 1 2097151 true ∷ [])) sound
    ∷ case (sheet_of (lift 1 1 1 1 1 true ∷ lift 2 0 0 1 2097151 false ∷ [])) (faulty (numbered 16 6))
    -- "5. End count not the number of lifts"
    ∷ case (0xF0000001 ∷ 0xF0000001 ∷ []) (faulty (numbered 5 0))
    -- "6. A held word with payload other than 0"
    ∷ case (0x1000000B ∷ 0x20200001 ∷ 0x30200001 ∷ 0x40000001 ∷ 0xF0000001 ∷ []) (faulty (numbered 6 3))
    ∷ []

-- the state of the scan before an end word, after n lifts
abbrev behind : ℕ → ScanState
behind n = record { kind = 3; number = n; old = 0; lifts = n }

-- "5. End count not the number of lifts, or above 4,096.": after 4,096 lifts and after 4,097
abbrev pub end_cases : List Bool
end_cases =
    eqb (fault (behind 4096) 0xF0001000) 0
    ∷ eqb (fault (behind 4097) 0xF0001001) 5
    ∷ eqb (fault (behind 4097) 0xF0001000) 5
    ∷ []

-- the measures that count of a lift of old measure m whose new place says b
abbrev counts : (m b old new : ℕ) → Bool
counts m b old new = eqb (place_at Old (lift 1 1 m 1 b false)).measure old && eqb (place_at New (lift 1 1 m 1 b false)).measure new

-- "the lift counts with its old measure", also with 0; one less than all ones is a measure
abbrev pub measure_cases : List Bool
measure_cases =
    counts 5 2097151 5 5
    ∷ counts 0 2097151 0 0
    ∷ counts 5 2097150 5 2097150
    ∷ counts 5 0 5 0
    ∷ []
