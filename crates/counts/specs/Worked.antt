-- Small sheets and texts with what Card 1 says of them, as one table to be computed. Its numbers and texts are literals, so that none of
-- them can change in definition and code together.
use Rattle.std.specs.Prelude.{ℕ, Bool, true, false, ◌&&◌, List, [], ◌∷◌}
use Prim.Native.Char.{code}
use Prim.Native.String.{String, [] as none, ◌∷◌ as ◌▸◌}
use Rattle.probability.specs.Table.{same}
use Rattle.sheet.specs.Sheet.{sheet_of}
use Rattle.reply.specs.Reply.{numbers, same_reply}
use Rattle.reply.specs.declared.Reply.{Reply}
use Rattle.sheet.specs.Worked.{lift, example}
use Rattle.counts.specs.Counts.{counts_reply, counts_output}

-- the bytes of a text, one for each character
abbrev bytes : String → List ℕ
bytes none = []
bytes (c ▸ s) = code c ∷ bytes s

-- a sheet and a text, the reply, and the sheet after the call
abbrev case : List ℕ → String → Reply → List ℕ → Bool
case ws t r us = same_reply (counts_reply ws (bytes t)) r && same (counts_output ws (bytes t)) us

-- n lines taken, and the sheet after it
abbrev taken : List ℕ → String → ℕ → List ℕ → Bool
taken ws t n us = case ws t (numbers 0 n 0) us

-- "Any refusal writes nothing."
abbrev refused : List ℕ → String → ℕ → ℕ → Bool
refused ws t n place = case ws t (numbers n place 0) ws

-- ---- the lines

-- the document's sheet with other new places of lifts 11, 12 and 13
abbrev changed : ℕ → ℕ → ℕ → List ℕ
changed a b c = 0x1000000B ∷ 0x20200002 ∷ a ∷ 0x1000000C ∷ 0x20200003 ∷ b ∷ 0x40000000 ∷ 0x1000000D ∷ 0x20200005 ∷ c ∷ 0xF0000003 ∷ []

-- the highest-numbered lift, with a new measure
abbrev highest : ℕ → List ℕ
highest b = 0x1FFFFFFF ∷ 0x20600001 ∷ b ∷ 0x40000000 ∷ 0xF0000001 ∷ []

abbrev pub line_cases : List Bool
line_cases =
    -- "Lifts without a line keep theirs."
    taken example "" 0 example
    -- "the count divided by 100, rounded up"
    ∷ taken example "11,0\n12,1\n13,100\n" 3 (changed 0x30200000 0x30200001 0x30200001)
    ∷ taken example "13,101\n11,200\n" 2 (changed 0x30200002 0x30200001 0x30200002)
    -- a lift that was not counted: its line counts it, also with 0; without one it stays so
    ∷ taken (changed 0x303FFFFF 0x303FFFFF 0x30200005) "12,100" 1 (changed 0x303FFFFF 0x30200001 0x30200005)
    ∷ taken (changed 0x30200004 0x303FFFFF 0x30200005) "12,0" 1 (changed 0x30200004 0x30200000 0x30200005)
    -- "ended by LF or CR LF; the last may lack its ending"
    ∷ taken example "11,300\r\n12,400\n13,500" 3 (changed 0x30200003 0x30200004 0x30200005)
    ∷ taken example "12,900\r\n" 1 (changed 0x30200004 0x30200009 0x30200005)
    -- "leading zeros allowed", more of them than a number has digits
    ∷ taken example "000000000000000000000000000000000011,000000000000000000000000000000000700" 1 (changed 0x30200007 0x30200001 0x30200005)
    -- "a lift number up to 268,435,455", "a count up to 104,857,600", and one beyond
    ∷ taken (highest 0x30200001) "268435455,104857600" 1 (highest 0x30300000)
    ∷ refused (highest 0x30200001) "268435456,104857600" 14 1
    ∷ refused (highest 0x30200001) "268435455,104857601" 14 1
    -- 11 and 100, with 2 to 32 or 2 to 64 added
    ∷ refused example "4294967307,100" 14 1
    ∷ refused example "18446744073709551627,100" 14 1
    ∷ refused example "11,4294967396" 14 1
    ∷ refused example "11,18446744073709551716" 14 1
    -- "15 when its lift is absent from the sheet or had a line already", "place the line from 1"
    ∷ refused example "0,100" 15 1
    ∷ refused example "12,100\n14,100" 15 2
    ∷ refused example "11,100\n12,100\n011,200\n13,100" 15 3
    -- "both come line by line, 14 first"
    ∷ refused example "11,100\n11,x" 14 2
    ∷ refused example "14,x" 14 1
    ∷ refused example "14,100\nx" 15 1
    ∷ refused example "x\n14,100" 14 1
    ∷ []

-- "14 when a line has another form": what is no line
abbrev other_forms : List String
other_forms =
    -- empty, without comma or field, with one comma too many
    "\n" ∷ "\r\n" ∷ "11" ∷ "11\n,100" ∷ ",100" ∷ "11," ∷ "11,\n" ∷ "11,100," ∷ "11,100,1"
    -- a CR that no LF follows
    ∷ "11,100\r" ∷ "11,100\r\r\n" ∷ "11,100\r12,100" ∷ "\r11,100" ∷ "11\r,100"
    -- blanks, signs, quotes, letters, other separators, the bytes beside the digits, NUL and a byte above 127
    ∷ " 11,100" ∷ "11 ,100" ∷ "11, 100" ∷ "11,100 " ∷ "11,100\t" ∷ "+11,100" ∷ "11,-100" ∷ "\"11\",100" ∷ "11,\"100\"" ∷ "x,100"
    ∷ "11,0x64" ∷ "11,1e2" ∷ "11;100" ∷ "11,100.0" ∷ "11,/" ∷ "11,:" ∷ "11,100\0" ∷ "11,²" ∷ []

-- each as the first line
abbrev malformed : List String → List Bool
malformed [] = []
malformed (s ∷ ss) = refused example s 14 1 ∷ malformed ss

-- and behind a line that is taken
abbrev pub form_cases : List Bool
form_cases = refused example "12,100\n\n" 14 2 ∷ refused example "12,100\r\n11,x" 14 2 ∷ malformed other_forms

-- ---- the sheet lent, and the result

-- two withdrawn lifts
abbrev withdrawn : List ℕ
withdrawn = sheet_of (lift 1 1 1 0 0 true ∷ lift 2 2 1 0 0 true ∷ [])

-- two lifts of new round 1
abbrev two : ℕ → ℕ → List ℕ
two a b = sheet_of (lift 1 1 1 1 a true ∷ lift 2 1 1 1 b false ∷ [])

-- a lift of old measure 1,048,575 that was not counted, and one of new measure b beside it
abbrev beside : ℕ → List ℕ
beside b = sheet_of (lift 1 1 1048575 1 2097151 true ∷ lift 2 2 1 1 b true ∷ [])

-- an old round without a held lift, and a new round with three donors
abbrev unheld : List ℕ
unheld = sheet_of (lift 1 5 1 1 1 false ∷ [])

abbrev three : List ℕ
three = sheet_of (lift 1 1 1 6 1 true ∷ lift 2 2 1 6 1 true ∷ lift 3 3 1 6 1 true ∷ [])

abbrev pub result_cases : List Bool
result_cases =
    -- "after 1 to 6 for the sheet lent"
    refused [] "x" 1 0
    ∷ refused (0x20000000 ∷ []) "x" 2 0
    ∷ refused (0x10000000 ∷ []) "x" 3 0
    ∷ refused (0x1000000B ∷ 0x2CA00001 ∷ []) "x" 4 1
    ∷ refused (0xF0000001 ∷ []) "x" 5 0
    ∷ refused (0x1000000B ∷ 0x20200000 ∷ 0x30200001 ∷ 0x40000000 ∷ []) "x" 6 3
    -- 16 among them, also where a line would count the newcomer
    ∷ refused (0x1000000B ∷ 0x20000000 ∷ 0x303FFFFF ∷ 0xF0000001 ∷ []) "11,100" 16 2
    ∷ refused (0x1000000B ∷ 0x20000000 ∷ 0x303FFFFF ∷ 0xF0000001 ∷ []) "x" 16 2
    -- and before 7 to 10
    ∷ refused unheld "x" 14 1
    ∷ refused (two 0 0) "3,1" 15 1
    ∷ refused three "2,1\n2,1" 15 2
    -- "The result is then checked as any sheet.": 4 by the first such word of the sheet, whichever line comes first
    ∷ refused withdrawn "2,1\n1,1" 4 2
    ∷ refused withdrawn "2,1\n1,0" 4 6
    ∷ taken withdrawn "2,0\n1,0" 2 withdrawn
    ∷ refused unheld "1,1" 7 5
    ∷ refused (two 1 1) "2,104857600" 8 1
    ∷ taken (two 0 1) "2,104857600" 1 (two 0 1048576)
    ∷ refused (two 0 1) "2,0" 9 1
    ∷ refused (two 0 0) "" 9 1
    ∷ taken (two 0 0) "2,1" 1 (two 0 1)
    ∷ refused three "2,1" 10 6
    -- its sums are of the measures filled in
    ∷ taken (beside 2097151) "2,100" 1 (beside 1)
    ∷ refused (beside 2097151) "2,101" 8 1
    ∷ []
