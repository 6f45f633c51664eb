-- "The sheet" of document 01, with Card 2 of document 02: its words, the lifts that they encode, and the words of a list of lifts.
use Rattle.std.specs.Prelude.{ℕ, ◌+◌, ◌*◌, ◌/◌, ◌%◌, ◌^◌, Bool, cond, List, [], ◌∷◌, ◌++◌, length, get_or, eqb}

-- ---- bounds: the associated constants of `Sheet`, named for the definitions

-- "At most 4,096 lifts"
abbrev pub most_lifts : ℕ
most_lifts = 4096

-- "rounds 1 to 100"
abbrev pub most_rounds : ℕ
most_rounds = 100

-- "each sum of a round's measures at most 1,048,576"; no measure is above it either
abbrev pub largest_sum : ℕ
largest_sum = 1048576

-- "the lower 21 bits of a new place, all ones, mean 'not counted'": what then stands for the new measure
abbrev pub not_counted : ℕ
not_counted = 2097151

-- three words for each lift, a held word for each old round, and the end word: 12,389
abbrev pub longest : ℕ
longest = 3 * most_lifts + most_rounds + 1

-- ---- words

-- "The top 4 bits are the kind, the low 28 the payload."
abbrev pub kind : ℕ → ℕ
kind w = w / 2 ^ 28

abbrev pub payload : ℕ → ℕ
payload w = w % 2 ^ 28

-- the kinds
abbrev pub lift_kind : ℕ
lift_kind = 1

abbrev pub old_kind : ℕ
old_kind = 2

abbrev pub new_kind : ℕ
new_kind = 3

abbrev pub held_kind : ℕ
held_kind = 4

abbrev pub end_kind : ℕ
end_kind = 15

-- an old or a new place
pub record Place : Type 0 where
  pub round : ℕ
  pub measure : ℕ

-- "upper 7 bits old round, lower 21 bits old measure", "the same for the new round and new measure"
abbrev pub place_of : ℕ → Place
place_of w = record { round = payload w / 2 ^ 21; measure = payload w % 2 ^ 21 }

-- ---- lifts

-- a lift as it is written
pub record Lift : Type 0 where
  pub number : ℕ
  pub old : Place
  pub new : Place
  pub held : Bool

-- the lift whose words begin a list: "For each lift: kinds 1, 2, 3, then 4 if held."
abbrev pub lift_of : List ℕ → Lift
lift_of ws =
    record {
      number = payload (get_or ws 0 0);
      old = place_of (get_or ws 1 0);
      new = place_of (get_or ws 2 0);
      held = eqb (kind (get_or ws 3 0)) held_kind;
    }

-- the lifts of a sheet: one for each word of kind 1
unfoldable pub lifts : List ℕ → List Lift
lifts [] = []
lifts (w ∷ ws) = cond (eqb (kind w) lift_kind) (lift_of (w ∷ ws) ∷ lifts ws) (lifts ws)

-- ---- and back

-- the word of a kind and a payload
abbrev pub word : ℕ → ℕ → ℕ
word k p = k * 2 ^ 28 + p

abbrev pub place_word : ℕ → Place → ℕ
place_word k p = word k (p.round * 2 ^ 21 + p.measure)

-- the words of a lift
abbrev pub lift_words : Lift → List ℕ
lift_words l = word lift_kind l.number ∷ place_word old_kind l.old ∷ place_word new_kind l.new ∷ cond l.held (word held_kind 0 ∷ []) []

-- the words of lifts, followed by other words
unfoldable pub words_then : List Lift → List ℕ → List ℕ
words_then [] ws = ws
words_then (l ∷ ls) ws = lift_words l ++ words_then ls ws

-- the sheet of a list of lifts: "After the last lift: one end word and nothing more."
abbrev pub sheet_of : List Lift → List ℕ
sheet_of ls = words_then ls (word end_kind (length ls) ∷ [])
