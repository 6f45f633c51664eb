-- Walks over the lifts of a legible sheet: what is left of the words is the words of the lifts left.
use Prim.Native.Nat.{ℕ, ◌+◌, ◌-◌, ◌^◌, ◌≤◌, ◌<◌}
use mathlib.Core.Path.{◌≡◌, refl, sym, ap, subst, ◌∙◌}
use mathlib.Core.Bool.{Bool, true, false, cond}
use mathlib.Core.List.{List, [], ◌∷◌, ◌++◌}
use lib.Dec.{eqb}
use native.Mathlib.Omega.{arith}
use lib.ListN.{length, get_or, drop, length-append, length-drop}
use lib.Seq.{drop-drop, get_or-append-add}
use Rattle.probability.specs.Sum.{indicator}
use Rattle.probability.proofs.Sums.{indicator_le}
use Rattle.sheet.specs.Sheet.{kind, payload, lift_kind, old_kind, new_kind, held_kind, end_kind, Lift, lift_of, lifts, word, place_word, lift_words, words_then}
use Rattle.sheet.specs.Reading.{Legible}
use Rattle.sheet.specs.Lift.{MarkSound}
use Rattle.sheet.specs.Law.{PlaceWellFormed, LiftWellFormed, AllWellFormed, LiftsLeft}
use Rattle.sheet.proofs.Trips.{kind_word, payload_word, kind_place, placed_writable, read_theorem}

-- the words of the end of a sheet of n lifts
abbrev end : ℕ → List ℕ
end n = word end_kind n ∷ []

abbrev pub all_left : {ws : List ℕ} → Legible ws → LiftsLeft ws
all_left {ws} l =
    let r = read_theorem ws l.read in
    record { before = 0; listed = r.well_formed.listed; count = length (lifts ws); few = omega (arith, r.well_formed.few); back = r.back }

-- how many words the first lift has
abbrev pub size : List ℕ → ℕ
size ws = 3 + indicator (lift_of ws).held

-- what holds of words left that begin with a lift, before an end word of n lifts
pub record First (n : ℕ) (ws : List ℕ) : Type 0 where
  pub room : 3 < length ws
  pub marked : MarkSound ws
  pub old : PlaceWellFormed old_kind (lift_of ws).old
  pub new : PlaceWellFormed new_kind (lift_of ws).new
  pub here : lifts ws ≡ lift_of ws ∷ lifts (drop (size ws) ws)
  pub next : LiftsLeft (drop (size ws) ws)
  pub counted : next.count ≡ n

-- a word of kind 1 is read as a lift, another is passed over
lifts_lift : (w : ℕ) → kind w ≡ lift_kind → (ws : List ℕ) → lifts (w ∷ ws) ≡ lift_of (w ∷ ws) ∷ lifts ws
unfolding lifts
lifts_lift w e ws = ap (λ k. cond (eqb k lift_kind) (lift_of (w ∷ ws) ∷ lifts ws) (lifts ws)) e

lifts_other : (w : ℕ) {k : ℕ} → kind w ≡ k → eqb k lift_kind ≡ false → (ws : List ℕ) → lifts (w ∷ ws) ≡ lifts ws
unfolding lifts
lifts_other w e h ws = ap (λ t. cond t (lift_of (w ∷ ws) ∷ lifts ws) (lifts ws)) (ap (λ k. eqb k lift_kind) e ∙ h)

-- a lift's words are read as one lift, and passed over as one
lifts_one : {n : ℕ} (l : Lift) → LiftWellFormed n l → (ws : List ℕ) → lifts (lift_words l ++ ws) ≡ lift_of (lift_words l ++ ws) ∷ lifts ws
lifts_one l p ws =
    lifts_lift _ (kind_word lift_kind l.number p.payload) _
    ∙ ap (λ ls. lift_of (lift_words l ++ ws) ∷ ls)
    (lifts_other _ (kind_place old_kind l.old (placed_writable p.old)) refl _ ∙ lifts_other _ (kind_place new_kind l.new (placed_writable p.new)) refl _ ∙ mark l.held)
  where
    mark : (t : Bool) → lifts (cond t (word held_kind 0 ∷ []) [] ++ ws) ≡ lifts ws
    mark true = lifts_other (word held_kind 0) refl refl ws
    mark false = refl

drop_one : (l : Lift) (ws : List ℕ) → drop (3 + indicator l.held) (lift_words l ++ ws) ≡ ws
drop_one l ws = go l.held
  where
    go : (t : Bool)
        → drop (3 + indicator t) (word lift_kind l.number ∷ place_word old_kind l.old ∷ place_word new_kind l.new ∷ cond t (word held_kind 0 ∷ []) [] ++ ws) ≡ ws
    go true = refl
    go false = refl

-- a sheet's words reach behind the last lift
written_long : (ls : List Lift) (n : ℕ) → 0 < length (words_then ls (end n))
unfolding words_then
written_long [] n = omega arith
written_long (l ∷ ls) n = omega arith

long : (t : Bool) (ws : List ℕ) → length ws ≤ length (cond t (word held_kind 0 ∷ []) [] ++ ws)
long true ws = omega arith
long false ws = omega arith

-- the word behind a lift's places is the held word, the next lift's first or the end word
marked_words : (l : Lift) (ls : List Lift) (n : ℕ) → AllWellFormed l.number ls → n < 2 ^ 28 → MarkSound (lift_words l ++ words_then ls (end n))
unfolding words_then AllWellFormed
marked_words l ls n d h = go l.held ls d
  where
    go : (t : Bool) (ls : List Lift) → AllWellFormed l.number ls
        → MarkSound (word lift_kind l.number ∷ place_word old_kind l.old ∷ place_word new_kind l.new ∷ cond t (word held_kind 0 ∷ []) [] ++ words_then ls (end n))
    go true ls d k = refl
    go false [] d k = absurd (omega (arith, k, kind_word end_kind n h))
    go false (m ∷ ms) d k = absurd (omega (arith, k, kind_word lift_kind m.number d.0.payload))

module _ {ws : List ℕ} (b : LiftsLeft ws) where
  -- the words left, where the lifts left are known
  left : (ls : List Lift) → lifts ws ≡ ls → ws ≡ words_then ls (end b.count)
  left ls e = rw (← e) (sym b.back)

  left_none : lifts ws ≡ [] → length ws ≡ 1
  unfolding words_then
  left_none e = ap length (left [] e)

  left_some : (l : Lift) (ls : List Lift) → lifts ws ≡ l ∷ ls → 3 < length ws
  unfolding words_then
  left_some l ls e = omega (arith, ap length (left (l ∷ ls) e), long l.held (words_then ls (end b.count)), written_long ls b.count)

  first_of : (l : Lift) (ls : List Lift) → lifts ws ≡ l ∷ ls → First b.count ws
  unfolding words_then AllWellFormed
  first_of l ls e =
      let p : LiftWellFormed b.before l = (rw e at b.listed).0 in
      let rest : List ℕ = words_then ls (end b.count) in
      let q : ws ≡ lift_words l ++ rest = left (l ∷ ls) e in
      let o : lifts ws ≡ lift_of ws ∷ lifts rest = rw q (lifts_one l p rest) in
      let s : lift_of ws ≡ l = cc in
      let t : lifts rest ≡ ls = cc in
      let d : drop (size ws) ws ≡ rest = ap (λ t. drop (3 + indicator t) ws) (ap (λ x. x.held) s) ∙ rw q (drop_one l rest) in
      record {
        room = left_some l ls e;
        marked = rw q (marked_words l ls b.count (rw e at b.listed).1 b.few);
        old = subst (PlaceWellFormed old_kind) (sym (ap (λ x. x.old) s)) p.old;
        new = subst (PlaceWellFormed new_kind) (sym (ap (λ x. x.new) s)) p.new;
        here = rw d o;
        next = record { before = l.number; listed = rw (d, t) (rw e at b.listed).1; count = b.count; few = b.few; back = rw (d, t) refl };
        counted = refl;
      }

  -- where more than the end word is left there is a lift
  pub first : (length ws ≡ 1 → ⊥) → First b.count ws
  first h = go (lifts ws) refl
    where
      go : (ls : List Lift) → lifts ws ≡ ls → First b.count ws
      go [] e = absurd (h (left_none e))
      go (l ∷ ls) e = first_of l ls e

  -- and where no more is left there is none
  pub none_left : length ws ≤ 1 → lifts ws ≡ []
  none_left h = go (lifts ws) refl
    where
      go : (ls : List Lift) → lifts ws ≡ ls → ls ≡ []
      go [] e = refl
      go (l ∷ ls) e = absurd (omega (arith, left_some l ls e))

  -- the end word is always left
  pub end_left : 0 < length ws
  end_left = go (lifts ws) refl
    where
      go : (ls : List Lift) → lifts ws ≡ ls → 0 < length ws
      go [] e = omega (arith, left_none e)
      go (l ∷ ls) e = omega (arith, left_some l ls e)

-- ---- by position

-- position i stands between lifts
pub record Between (ws : List ℕ) (i : ℕ) : Type 0 where
  pub rest : LiftsLeft (drop i ws)
  pub counted : rest.count ≡ length (lifts ws)

pub between_none : {ws : List ℕ} → Legible ws → Between ws 0
between_none l = record { rest = all_left l; counted = refl }

-- where the lift at position i ends
abbrev pub behind : List ℕ → ℕ → ℕ
behind ws i = i + size (drop i ws)

-- what holds at a lift
pub record Turn (ws : List ℕ) (i : ℕ) : Type 0 where
  pub room : i + 3 < length ws
  pub marked : MarkSound (drop i ws)
  pub old : PlaceWellFormed old_kind (lift_of (drop i ws)).old
  pub new : PlaceWellFormed new_kind (lift_of (drop i ws)).new
  pub here : lifts (drop i ws) ≡ lift_of (drop i ws) ∷ lifts (drop (behind ws i) ws)
  pub next : Between ws (behind ws i)

-- a turn moves on, and not beyond the words
pub moved : {ws : List ℕ} {i m : ℕ} → Turn ws i → m ≡ indicator (lift_of (drop i ws)).held → i + (3 + m) ≤ length ws
moved {ws} {i} t e = omega (arith, t.room, indicator_le (lift_of (drop i ws)).held)

module _ {ws : List ℕ} {i : ℕ} (b : Between ws i) where
  -- what is left of the words is the words of the lifts left
  pub words_left : words_then (lifts (drop i ws)) (end (length (lifts ws))) ≡ drop i ws
  words_left = rw b.counted at b.rest.back

  pub turn : i + 1 < length ws → Turn ws i
  turn h =
      let f = first b.rest (λ e. omega (arith, length-drop i ws)) in
      let d : drop (size (drop i ws)) (drop i ws) ≡ drop (behind ws i) ws = drop-drop (size (drop i ws)) i ws in
      let n = subst (λ us. (r : LiftsLeft us) × (r.count ≡ length (lifts ws))) d (f.next, f.counted ∙ b.counted) in
      record { room = omega (arith, f.room, length-drop i ws); marked = f.marked; old = f.old; new = f.new; here = rw d at f.here; next = record { rest = n.0; counted = n.1 } }

  pub last : length ws ≤ i + 1 → lifts (drop i ws) ≡ []
  last h = none_left b.rest (omega (arith, length-drop i ws))

  -- the end word is never passed
  pub inside : i < length ws
  inside = omega (arith, length-drop i ws, end_left b.rest)

-- ---- the end word

get_or_last : (xs ys : List ℕ) → 0 < length ys → get_or (xs ++ ys) (length (xs ++ ys) - 1) 0 ≡ get_or ys (length ys - 1) 0
get_or_last xs ys h =
    let e : length (xs ++ ys) - 1 ≡ length xs + (length ys - 1) = omega (arith, length-append xs ys) in
    rw e (get_or-append-add xs ys (length ys - 1) 0)

written_last : (ls : List Lift) (n : ℕ) → get_or (words_then ls (end n)) (length (words_then ls (end n)) - 1) 0 ≡ word end_kind n
unfolding words_then
written_last [] n = refl
written_last (l ∷ ls) n = get_or_last (lift_words l) (words_then ls (end n)) (written_long ls n) ∙ written_last ls n

-- the end word counts the lifts
pub end_counts : {ws : List ℕ} → Legible ws → payload (get_or ws (length ws - 1) 0) ≡ length (lifts ws)
end_counts {ws} l =
    let r = read_theorem ws l.read in
    let n = length (lifts ws) in
    ap (λ us. payload (get_or us (length us - 1) 0)) (sym r.back) ∙ ap payload (written_last (lifts ws) n) ∙ payload_word end_kind n (omega (arith, r.well_formed.few))
