-- Small sheets with what is replied, the pairs and the next sheet, as tables to be computed: all numbers and words are literals.
use Rattle.std.specs.Prelude.{ℕ, Bool, true, false, ◌&&◌, List, [], ◌∷◌, length}
use Rattle.probability.specs.Table.{same}
use Rattle.sheet.specs.Sheet.{sheet_of}
use Rattle.reply.specs.Reply.{numbers, same_reply}
use Rattle.reply.specs.declared.Reply.{Reply}
use Rattle.sheet.specs.Worked.{lift}
use Rattle.carry.specs.Reply.{reply_next, output_next, lent_sheet}

-- a sheet, random words, a start, an output and a lent sheet, with the reply and both after the call
pub record Call : Type 0 where
  pub sheet : List ℕ
  pub words : List ℕ
  pub start : ℕ
  pub out : List ℕ
  pub next : List ℕ
  pub reply : Reply
  pub out_after : List ℕ
  pub next_after : List ℕ

abbrev case : Call → Bool
case c =
    same_reply (reply_next c.sheet c.words c.start (length c.out) (length c.next)) c.reply
    && (same (output_next c.sheet c.words c.start c.out (length c.next)) c.out_after
    && same (lent_sheet c.sheet c.words c.start (length c.out) c.next) c.next_after)

-- a refusal: both keep what they had
abbrev refused : List ℕ → List ℕ → ℕ → List ℕ → List ℕ → ℕ → ℕ → Bool
refused sheet ws start out next n place =
    case (record { sheet = sheet; words = ws; start = start; out = out; next = next; reply = numbers n place 0; out_after = out; next_after = next })

-- new round 1 has lift 11, counted, and 12, held and not counted; 13 is withdrawn; round 2 has a newcomer
abbrev quarter : List ℕ
quarter = sheet_of (lift 11 1 2 1 4 false ∷ lift 12 1 3 1 2097151 true ∷ lift 13 1 5 0 0 false ∷ lift 14 0 0 2 6 false ∷ [])

-- the next sheet if 12 stays: 4 and the filled-in 3 are old measures, every new place is "not counted", and 13 is left out
abbrev stayed : List ℕ
stayed =
    0x1000000B ∷ 0x20200004 ∷ 0x303FFFFF
    ∷ 0x1000000C ∷ 0x20200003 ∷ 0x303FFFFF ∷ 0x40000000
    ∷ 0x1000000E ∷ 0x20400006 ∷ 0x305FFFFF ∷ 0x40000000
    ∷ 0xF0000003 ∷ []

-- eleven words, and twelve
abbrev eleven : List ℕ
eleven = 1 ∷ 2 ∷ 3 ∷ 4 ∷ 5 ∷ 6 ∷ 7 ∷ 8 ∷ 9 ∷ 10 ∷ 11 ∷ []

abbrev twelve : List ℕ
twelve = 12 ∷ eleven

abbrev pub cases : List Bool
cases =
    -- the old weight of 12 is 21 and the new one 15: by 14 it stays
    case (record {
      sheet = quarter;
      words = 14 ∷ 5 ∷ [];
      start = 0;
      out = 5 ∷ 6 ∷ 7 ∷ 8 ∷ 9 ∷ [];
      next = twelve;
      reply = numbers 0 2 2;
      out_after = 0x50200001 ∷ 0x6000000C ∷ 0x50400003 ∷ 0x6000000E ∷ 9 ∷ [];
      next_after = stayed;
    })
    -- by 15 it is dropped for 11: "held marks on the choices", and "words behind .. keep what they had"
    ∷ case (record {
      sheet = quarter;
      words = 9 ∷ 15 ∷ 0 ∷ 5 ∷ [];
      start = 1;
      out = 5 ∷ 6 ∷ 7 ∷ 8 ∷ [];
      next = 13 ∷ twelve;
      reply = numbers 0 2 3;
      out_after = 0x50200002 ∷ 0x6000000B ∷ 0x50400003 ∷ 0x6000000E ∷ [];
      next_after =
          0x1000000B ∷ 0x20200004 ∷ 0x303FFFFF ∷ 0x40000000
          ∷ 0x1000000C ∷ 0x20200003 ∷ 0x303FFFFF
          ∷ 0x1000000E ∷ 0x20400006 ∷ 0x305FFFFF ∷ 0x40000000
          ∷ 0xF0000003 ∷ 11 ∷ [];
    })
    -- "running it at once must keep every recorder and read no chance word": it writes itself
    ∷ case (record {
      sheet = stayed;
      words = [];
      start = 0;
      out = 5 ∷ 6 ∷ 7 ∷ 8 ∷ [];
      next = twelve;
      reply = numbers 0 2 0;
      out_after = 0x50200001 ∷ 0x6000000C ∷ 0x50400001 ∷ 0x6000000E ∷ [];
      next_after = stayed;
    })
    -- "17 when the lent sheet has too few words": eleven for twelve, before 13 and after 12, which is after 11
    ∷ refused quarter (14 ∷ 5 ∷ []) 0 (6 ∷ 7 ∷ 8 ∷ 9 ∷ []) eleven 17 12
    ∷ refused quarter [] 0 (6 ∷ 7 ∷ 8 ∷ 9 ∷ []) eleven 17 12
    ∷ refused quarter [] 0 (7 ∷ 8 ∷ 9 ∷ []) eleven 12 4
    ∷ refused quarter [] 1 (7 ∷ 8 ∷ 9 ∷ []) eleven 11 1
    -- 13 leaves both, though the first round is done
    ∷ refused quarter [] 0 (6 ∷ 7 ∷ 8 ∷ 9 ∷ []) twelve 13 1
    ∷ refused quarter (14 ∷ []) 0 (6 ∷ 7 ∷ 8 ∷ 9 ∷ []) twelve 13 2
    -- 1 to 10 and 16 before them
    ∷ refused [] [] 1 [] [] 1 0
    ∷ []

abbrev pub corner_cases : List Bool
corner_cases =
    -- all withdrawn, or no lift at all: the sheet of one end word
    case (record {
      sheet = sheet_of (lift 1 1 3 0 0 true ∷ []);
      words = [];
      start = 0;
      out = [];
      next = 7 ∷ 8 ∷ [];
      reply = numbers 0 0 0;
      out_after = [];
      next_after = 0xF0000000 ∷ 8 ∷ [];
    })
    ∷ case (record {
      sheet = 0xF0000000 ∷ [];
      words = [];
      start = 0;
      out = [];
      next = 7 ∷ [];
      reply = numbers 0 0 0;
      out_after = [];
      next_after = 0xF0000000 ∷ [];
    })
    ∷ refused (sheet_of (lift 1 1 3 0 0 true ∷ [])) [] 0 [] [] 17 1
    -- the largest number, round and measure
    ∷ case (record {
      sheet = sheet_of (lift 268435455 0 0 100 1048576 false ∷ []);
      words = 0 ∷ [];
      start = 0;
      out = 8 ∷ 9 ∷ [];
      next = 1 ∷ 2 ∷ 3 ∷ 4 ∷ 5 ∷ [];
      reply = numbers 0 1 1;
      out_after = 0x5C800003 ∷ 0x6FFFFFFF ∷ [];
      next_after = 0x1FFFFFFF ∷ 0x2C900000 ∷ 0x3C9FFFFF ∷ 0x40000000 ∷ 0xF0000001 ∷ [];
    })
    -- a count of 0 is one
    ∷ case (record {
      sheet = sheet_of (lift 1 1 3 1 0 true ∷ lift 2 1 7 1 1 false ∷ []);
      words = 0 ∷ 0 ∷ [];
      start = 0;
      out = 8 ∷ 9 ∷ [];
      next = 1 ∷ 2 ∷ 3 ∷ 4 ∷ 5 ∷ 6 ∷ 7 ∷ 8 ∷ [];
      reply = numbers 0 1 2;
      out_after = 0x50200002 ∷ 0x60000002 ∷ [];
      next_after = 0x10000001 ∷ 0x20200000 ∷ 0x303FFFFF ∷ 0x10000002 ∷ 0x20200001 ∷ 0x303FFFFF ∷ 0x40000000 ∷ 0xF0000002 ∷ [];
    })
    ∷ []
