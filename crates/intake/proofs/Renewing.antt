-- Walks over the lifts of a legible sheet: their numbers gathered, and new measures put in.
use Prim.Native.Nat.{ℕ, suc, ◌+◌, ◌≤◌, ◌<◌}
use mathlib.Core.Path.{◌≡◌, refl, sym, ap, ◌∙◌}
use mathlib.Core.Bool.{Bool, true, false}
use mathlib.Core.List.{List, [], ◌∷◌, ◌++◌, append_assoc}
use native.Mathlib.Nat.{add-sub_cancel_left}
use native.Mathlib.Numerals.{add-one}
use native.Mathlib.Omega.{arith}
use lib.Dec.{ltb}
use lib.ListN.{length, get_or, set, take, drop, drop_of_length-le, length-append, length-drop}
use lib.Seq.{drop_at, drop-cons, get_or-drop}
use borrow.Author.Tests.{ltb-true, ltb-false}
use Rattle.std.specs.Prelude.{Option, Some, None}
use Rattle.std.proofs.lemmas.List.{set-append_right}
use Rattle.probability.specs.Sum.{indicator}
use Rattle.sheet.specs.Sheet.{new_kind, end_kind, place_of, Lift, lift_of, lifts, word, place_word, lift_words, words_then, sheet_of}
use Rattle.sheet.specs.Reading.{Legible}
use Rattle.sheet.proofs.Walks.{words_left, Between, between_none, Turn, turn, last, inside, behind as past}
use Rattle.counts.specs.Counts.{numbers_of, remeasured, measured_by}
use Rattle.intake.specs.Positions.{lifts_with}

-- where a lift is left there is a turn
pub turn_left : {ws : List ℕ} {i : ℕ} → Between ws i → 0 < length (lifts (drop i ws)) → Turn ws i
turn_left {ws} {i} b h = go (ltb (i + 1) (length ws)) refl
  where
    go : (t : Bool) → ltb (i + 1) (length ws) ≡ t → Turn ws i
    go true e = turn b (ltb-true _ _ e)
    go false e = absurd (omega (arith, ap length (last b (ltb-false _ _ e))))

one_less : {ws : List ℕ} {i : ℕ} → Turn ws i → length (lifts (drop i ws)) ≡ suc (length (lifts (drop (past ws i) ws)))
one_less t = ap length t.here

no_lifts : (ls : List Lift) → length ls ≡ 0 → ls ≡ []
no_lifts [] h = refl
no_lifts (l ∷ ls) h = absurd (omega arith)

-- ---- the numbers

-- the numbers so far and those of the lifts left are all
pub record Numbering (ls : List Lift) (ns : List ℕ) (left : List Lift) (k : ℕ) : Type 0 where
  pub done : take k ns ++ numbers_of left ≡ numbers_of ls
  pub long : length ns ≡ length ls
  pub many : k + length left ≡ length ls

-- ---- the measures

-- a lift's words with another measure
words_with : (l : Lift) (m : ℕ) (rest : List ℕ) → set (lift_words l ++ rest) 2 (place_word new_kind (record { round = l.new.round; measure = m })) ≡ lift_words (remeasured l m) ++ rest
words_with l m rest = refl

with_length : (l : Lift) (o : Option ℕ) → length (lift_words (measured_by l o)) ≡ 3 + indicator l.held
with_length l o = go o l.held
  where
    go : (o : Option ℕ) (h : Bool) → length (lift_words (measured_by (record { number = l.number; old = l.old; new = l.new; held = h }) o)) ≡ 3 + indicator h
    go None true = refl
    go None false = refl
    go (Some m) true = refl
    go (Some m) false = refl

lifts_with_length : (ls : List Lift) (ms : List (Option ℕ)) → length (lifts_with ls ms) ≡ length ls
unfolding lifts_with
lifts_with_length ls [] = refl
lifts_with_length [] (m ∷ ms) = refl
lifts_with_length (l ∷ ls) (m ∷ ms) = ap suc (lifts_with_length ls ms)

-- the words of the lift at a position
words_here : {ws : List ℕ} {i : ℕ} → Between ws i → Turn ws i → drop i ws ≡ lift_words (lift_of (drop i ws)) ++ drop (past ws i) ws
unfolding words_then
words_here {ws} {i} b t =
    let here = t.here in
    let back = words_left t.next in
    sym (words_left b) ∙ rw (here, back)

pub record Putting (ws : List ℕ) (ms : List (Option ℕ)) (out : List ℕ) (i k : ℕ) : Type 0 where
  pub between : Between ws i
  pub front : List ℕ
  pub is : out ≡ front ++ drop i ws
  pub size : length front ≡ i
  pub done : front ++ words_then (lifts_with (lifts (drop i ws)) (drop k ms)) (word end_kind (length (lifts ws)) ∷ []) ≡ sheet_of (lifts_with (lifts ws) ms)
  pub left : k + length (lifts (drop i ws)) ≡ length ms

pub putting_none : {ws : List ℕ} {ms : List (Option ℕ)} → Legible ws → length ms ≡ length (lifts ws) → Putting ws ms ws 0 0
putting_none {ws} {ms} l e = record { between = between_none l; front = []; is = refl; size = refl; done = rw (lifts_with_length (lifts ws) ms); left = omega arith }

module _ {ws : List ℕ} {ms : List (Option ℕ)} {out : List ℕ} {i k : ℕ} (d : Putting ws ms out i k) where
  pub putting_length : length out ≡ length ws
  putting_length = rw (d.is, length-append, length-drop) (omega (arith, d.size, inside d.between))

  pub putting_drop : drop i out ≡ drop i ws
  putting_drop = rw d.is (drop_at d.front (drop i ws) i d.size)

  pub putting_at : k < length ms → Turn ws i
  putting_at h = turn_left d.between (omega (arith, d.left))

  pub putting_room : k < length ms → i + 3 < length out
  putting_room h = omega (arith, (putting_at h).room, putting_length)

  read_new : get_or out (i + 2) 0 ≡ get_or (drop i ws) 2 0
  read_new = rw (← putting_drop) (sym (get_or-drop i out 2 0))

  -- a turn, by what it makes of the lift's words
  turned : k < length ms → {m : ℕ} {out' : List ℕ} → m ≡ indicator (lift_of (drop i out)).held
      → out' ≡ d.front ++ (lift_words (measured_by (lift_of (drop i ws)) (get_or ms k None)) ++ drop (past ws i) ws) → Putting ws ms out' (i + (3 + m)) (k + 1)
  unfolding words_then lifts_with
  turned h {m} {out'} em eo =
      let t = putting_at h in
      let l = lift_of (drop i ws) in
      let o = get_or ms k None in
      let here = t.here in
      let n : m ≡ indicator l.held = rw putting_drop at em in
      rw n (record {
        between = t.next;
        front = d.front ++ lift_words (measured_by l o);
        is = eo ∙ sym (append_assoc d.front (lift_words (measured_by l o)) (drop (past ws i) ws));
        size = length-append d.front (lift_words (measured_by l o)) ∙ (omega (arith, d.size, with_length l o));
        done = append_assoc d.front (lift_words (measured_by l o)) _ ∙ rw (add-one k) (rw (here, drop-cons ms k None h) at d.done);
        left = omega (arith, one_less t, d.left);
      })

  pub putting_kept : k < length ms → get_or ms k None ≡ None → {m : ℕ} → m ≡ indicator (lift_of (drop i out)).held → Putting ws ms out (i + (3 + m)) (k + 1)
  putting_kept h e em = turned h em (d.is ∙ ap (λ xs. d.front ++ xs) (rw e (words_here d.between (putting_at h))))

  pub putting_turn : k < length ms → {x : ℕ} → get_or ms k None ≡ Some x → {w m : ℕ} → m ≡ indicator (lift_of (drop i out)).held
      → w ≡ place_word new_kind (record { round = (place_of (get_or out (i + 2) 0)).round; measure = x }) → Putting ws ms (set out (i + 2) w) (i + (3 + m)) (k + 1)
  putting_turn h {x} e {w} {m} em ew =
      let words = words_here d.between (putting_at h) in
      turned h em (rw e (at_front (lift_of (drop i ws)) w (rw read_new at ew) (drop (past ws i) ws) words))
    where
      at_front : (l : Lift) (w : ℕ) → w ≡ place_word new_kind (record { round = l.new.round; measure = x })
          → (rest : List ℕ) → drop i ws ≡ lift_words l ++ rest → set out (i + 2) w ≡ d.front ++ (lift_words (remeasured l x) ++ rest)
      at_front l w z rest q =
          let s = d.size in
          rw (d.is, q, ← s, set-append_right d.front (lift_words l ++ rest) _ (length d.front + 2) w refl (omega arith), add-sub_cancel_left) (ap (λ xs. d.front ++ xs) (rw z (words_with l x rest)))

  pub putting_end : length ms ≤ k → out ≡ sheet_of (lifts_with (lifts ws) ms)
  unfolding words_then lifts_with
  putting_end h =
      let e : lifts (drop i ws) ≡ [] = no_lifts (lifts (drop i ws)) (omega (arith, d.left)) in
      let b = words_left d.between in
      d.is ∙ (rw e at (ap (λ xs. d.front ++ xs) (sym b))) ∙ (rw (e, drop_of_length-le ms h) at d.done)
