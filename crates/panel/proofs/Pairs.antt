-- Pairs written into parts of the output: those written so far and those of the rounds to come are all pairs.
use Prim.Native.Nat.{ℕ, ◌+◌, ◌-◌, ◌<◌, ◌≤◌}
use mathlib.Core.Path.{◌≡◌, refl, sym, ap, ◌∙◌}
use mathlib.Core.List.{List, [], ◌∷◌, ◌++◌, append_assoc, append-nil}
use native.Mathlib.Omega.{arith}
use native.Mathlib.Numerals.{add-one}
use lib.ListN.{length, get_or, drop, set, length-append, length-drop, drop_of_length-le}
use lib.Seq.{take_at, drop_at, drop-cons, drop-drop}
use borrow.Rule.Slice.PartMut.{put_mid}
use Rattle.std.specs.Prelude.{Option, None, Some}
use Rattle.selection.specs.Choice.{pair}
use Rattle.selection.specs.declared.Pick.{Pick}
use Rattle.panel.specs.Writing.{pairs_from, pairs, with_pairs}

two_sets : (a b : ℕ) (l : List ℕ) → length l ≡ 2 → set (set l 0 a) 1 b ≡ a ∷ b ∷ []
two_sets a b [] h = absurd (omega arith)
two_sets a b (x ∷ []) h = absurd (omega arith)
two_sets a b (x ∷ y ∷ []) h = refl
two_sets a b (x ∷ y ∷ z ∷ l) h = absurd (omega arith)

pub two : (l : List ℕ) {l' : List ℕ} {a b : ℕ} → length l ≡ 2 → l' ≡ set (set l 0 a) 1 b → l' ≡ a ∷ b ∷ []
two l {l'} {a} {b} h e = e ∙ two_sets a b l h

-- a part from a to e that is lent comes back: what was written before it, the part, and what lay from e on
put_part : (done part old : List ℕ) {out : List ℕ} (a e : ℕ) → length done ≡ a → a ≤ e → out ≡ done ++ drop a old → put_mid a (e - a) out part ≡ (done ++ part) ++ drop e old
put_part done part old a e l h w =
    let n : a + (e - a) ≡ e = omega arith in
    rw (w, take_at done (drop a old) a l, drop_at done (drop a old) a l, drop-drop, n, append_assoc)

-- what a round without a choice and one with a choice add
none_adds : (r : ℕ) (picks : List (Option Pick)) → pairs_from r (None ∷ picks) ≡ pairs_from (r + 1) picks
unfolding pairs_from
none_adds r picks = rw (add-one r) refl

some_adds : (r : ℕ) (p : Pick) (picks : List (Option Pick)) → pairs_from r (Some p ∷ picks) ≡ pair r p.number p.outcome ++ pairs_from (r + 1) picks
unfolding pairs_from
some_adds r p picks = rw (add-one r) refl

-- the pairs of the rounds before r are written, and behind them lies what did
pub record PairsWritten (picks : List (Option Pick)) (old out : List ℕ) (start r : ℕ) : Type 0 where
  pub done : List ℕ
  pub long : length done ≡ start
  pub kept : length out ≡ length old
  pub same : done ++ pairs_from r (drop r picks) ≡ pairs picks
  pub is : out ≡ done ++ drop start old

module _ {picks : List (Option Pick)} {old out : List ℕ} {start r : ℕ} (w : PairsWritten picks old out start r) (h : r < length picks) where
  -- the rounds from r up are round r and those behind it
  here : drop r picks ≡ get_or picks r None ∷ drop (r + 1) picks
  here = drop-cons picks r None h ∙ rw (add-one r) refl

  -- a round without a choice
  pub written_skip : get_or picks r None ≡ None → PairsWritten picks old out start (r + 1)
  written_skip e = record { done = w.done; long = w.long; kept = w.kept; same = rw (here, e, none_adds r (drop (r + 1) picks)) at w.same; is = w.is }

  module _ (few : length (pairs picks) ≤ length old) {p : Pick} (e : get_or picks r None ≡ Some p) where
    -- one with a choice has the next pair
    next_pair : (w.done ++ pair r p.number p.outcome) ++ pairs_from (r + 1) (drop (r + 1) picks) ≡ pairs picks
    next_pair =
        append_assoc w.done (pair r p.number p.outcome) (pairs_from (r + 1) (drop (r + 1) picks)) ∙ rw (here, e, some_adds r p (drop (r + 1) picks)) at w.same

    -- for which there is room
    pub room : start + 2 ≤ length out
    room =
        omega (
          arith,
          few,
          ap length next_pair,
          length-append (w.done ++ pair r p.number p.outcome) (pairs_from (r + 1) (drop (r + 1) picks)),
          length-append w.done (pair r p.number p.outcome),
          w.long,
          w.kept,
        )

    pub written_turn : {part out' : List ℕ} → part ≡ pair r p.number p.outcome → out' ≡ put_mid start (start + 2 - start) out part → PairsWritten picks old out' (start + 2) (r + 1)
    written_turn {part} {out'} q e =
        let long : length (w.done ++ part) ≡ start + 2 = rw (q, length-append w.done) (omega (arith, w.long)) in
        let is : out' ≡ (w.done ++ part) ++ drop (start + 2) old =
        e ∙ put_part w.done part old start (start + 2) w.long (omega arith) w.is in
        record {
          done = w.done ++ part;
          long = long;
          kept = rw (is, length-append (w.done ++ part), length-drop) (omega (arith, long, room, w.kept));
          same = rw q next_pair;
          is = is;
        }

-- behind the last round
pub written_end : {picks : List (Option Pick)} {old out : List ℕ} {start r : ℕ} → length picks ≤ r → PairsWritten picks old out start r → out ≡ with_pairs picks old
unfolding pairs_from
written_end {picks} {old} {out} {start} {r} h w =
    let e : w.done ≡ pairs picks = sym (append-nil w.done) ∙ rw (drop_of_length-le picks {i = r} h) at w.same in
    w.is ∙ rw (← e, w.long)
