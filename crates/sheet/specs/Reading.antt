-- Refusals 1 to 6 of document 01 and 16 of document 02 (Card 2): the length, and the words one by one, "the first faulty word deciding, 2
-- before the others".
use Rattle.std.specs.Prelude.{ℕ, zero, suc, ◌+◌, ◌≤◌, ◌≡◌, Bool, false, cond, not, ◌&&◌, ◌||◌, List, [], ◌∷◌, length, eqb, leb, ltb, Result, Ok, Err}
use Rattle.sheet.specs.Sheet.{most_lifts, most_rounds, largest_sum, longest, not_counted, kind, payload, lift_kind, old_kind, new_kind, held_kind, end_kind, place_of}
use Rattle.reply.specs.Reply.{Numbered, numbered}
use Rattle.reply.specs.Refusal.{refusal_of}
use Rattle.reply.specs.declared.Refusal.{Refusal}

-- "1. Length 0 or above 12,389 words."
abbrev pub mislong : List ℕ → Bool
mislong ws = eqb (length ws) 0 || ltb longest (length ws)

-- ---- the state of the scan

-- the kind of the last word, 0 before the first; the number of the last lift, the word of its old place, and how many lifts there are
pub record ScanState : Type 0 where
  pub kind : ℕ
  pub number : ℕ
  pub old : ℕ
  pub lifts : ℕ

-- before the first word: no kind, no lift
abbrev pub start_state : ScanState
start_state = record { kind = 0; number = 0; old = 0; lifts = 0 }

-- after a word: its kind; the number of the last lift, the word of its old place, and how many lifts there are
abbrev pub next_state : ScanState → ℕ → ScanState
next_state s w =
    record {
      kind = kind w;
      number = cond (eqb (kind w) lift_kind) (payload w) s.number;
      old = cond (eqb (kind w) old_kind) w s.old;
      lifts = cond (eqb (kind w) lift_kind) (s.lifts + 1) s.lifts;
    }

-- which kind may follow which: "For each lift: kinds 1, 2, 3, then 4 if held. After the last lift: one end word and nothing more."
abbrev pub may_follow : ℕ → ℕ → Bool
may_follow before k =
    cond (eqb before lift_kind) (eqb k old_kind)
    (cond (eqb before old_kind) (eqb k new_kind)
    (cond (eqb before end_kind) false
    (eqb k lift_kind || eqb k end_kind || eqb before new_kind && eqb k held_kind)))

-- ---- the refusals of a word

-- "2. A kind out of sequence, a word after the end"
abbrev pub out_of_sequence : ScanState → ℕ → Bool
out_of_sequence s w = not (may_follow s.kind (kind w))

-- "3. Lift number 0 or not above the one before."
abbrev pub misnumbered : ScanState → ℕ → Bool
misnumbered s w = eqb (kind w) lift_kind && (eqb (payload w) 0 || leb (payload w) s.number)

-- whether a word of kind k holds a place
abbrev pub is_place : ℕ → Bool
is_place k = eqb k old_kind || eqb k new_kind

-- "measure above 1,048,576" in a word of kind k, but for "not counted" in a new place
abbrev pub too_large : (k measure : ℕ) → Bool
too_large k m = ltb largest_sum m && not (eqb k new_kind && eqb m not_counted)

-- "Round above 100, measure above 1,048,576, or round 0 with a measure other than 0" in a word of kind k; so "Refusal 4 no longer meets that
-- value in a new place with a real round", from 1 to 100
abbrev pub beyond : (k round measure : ℕ) → Bool
beyond k r m = ltb most_rounds r || too_large k m || eqb r 0 && not (eqb m 0)

-- "4. Round above 100, measure above 1,048,576, or round 0 with a measure other than 0."
abbrev pub misplaced : ℕ → Bool
misplaced w = is_place (kind w) && beyond (kind w) (place_of w).round (place_of w).measure

-- "16 when a newcomer is not counted"; "Round 0 in an old place is a newcomer"
abbrev pub uncounted_newcomer : ScanState → ℕ → Bool
uncounted_newcomer s w = eqb (kind w) new_kind && (eqb (place_of s.old).round 0 && eqb (place_of w).measure not_counted)

-- "5. End count not the number of lifts, or above 4,096."
abbrev pub miscounted : ScanState → ℕ → Bool
miscounted s w = eqb (kind w) end_kind && (not (eqb (payload w) s.lifts) || ltb most_lifts (payload w))

-- "6. A held word with payload other than 0, or whose lift has old measure 0."
abbrev pub mismarked : ScanState → ℕ → Bool
mismarked s w = eqb (kind w) held_kind && (not (eqb (payload w) 0) || eqb (place_of s.old).measure 0)

-- the number of the first refusal that applies to a word, 0 if none does; 16 "wherever 4 is checked, after it"
unfoldable pub fault : ScanState → ℕ → ℕ
fault s w =
    cond (out_of_sequence s w) 2
    (cond (misnumbered s w) 3
    (cond (misplaced w) 4
    (cond (uncounted_newcomer s w) 16
    (cond (miscounted s w) 5
    (cond (mismarked s w) 6
    0)))))

-- ---- the first faulty word

-- the refusal of the first faulty word, or that no word is faulty
pub data Reading : Type 0 where
  faulty : Numbered → Reading
  sound : Reading

-- a fault at word i ends the reading; without one it continues
abbrev pub unless_fault : ℕ → ℕ → Reading → Reading
unless_fault zero i rest = rest
unless_fault (suc n) i rest = faulty (numbered (suc n) i)

-- the reading of the words from position i on; "or no end (place: the length)"
unfoldable pub read_from : ScanState → ℕ → List ℕ → Reading
read_from s i [] = cond (eqb s.kind end_kind) sound (faulty (numbered 2 i))
read_from s i (w ∷ ws) = unless_fault (fault s w) i (read_from (next_state s w) (i + 1) ws)

abbrev pub reading : List ℕ → Reading
reading ws = read_from start_state 0 ws

-- refusals 1 to 6 and 16: "Order: 1; then the words one by one, the first faulty word deciding"; of 1, "Place: the length."
abbrev pub of_words : List ℕ → Reading
of_words ws = cond (mislong ws) (faulty (numbered 1 (length ws))) (reading ws)

-- none of the refusals 1 to 6 and 16 applies: there are not too many words, and the reading is sound (so there is a word, the end)
pub record Legible (ws : List ℕ) : Type 0 where
  pub short : length ws ≤ longest
  pub read : reading ws ≡ sound

-- ---- the code's answer

-- the reading that an answer to words alone stands for
abbrev pub reading_of : {A : Type 0} → Result A Refusal → Reading
reading_of (Err x) = faulty (refusal_of x)
reading_of (Ok _) = sound
