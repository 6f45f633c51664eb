-- Digits read one by one: clamping after each digit is clamping the number. The laws of the loop over digits, and of a number's ways out.
use Prim.Native.Nat.{ℕ, suc, min, ◌+◌, ◌*◌, ◌-◌, ◌≤◌, ◌<◌}
use mathlib.Core.Path.{◌≡◌, refl, sym, ap, ap₂, ◌∙◌}
use mathlib.Core.Bool.{Bool, true, false, cond, ◌&&◌}
use mathlib.Core.List.{List, [], ◌∷◌}
use native.Mathlib.Omega.{arith}
use lib.Dec.{leb, ltb}
use lib.ListN.{length, get_or, take, drop, length-drop}
use lib.Seq.{take_all}
use borrow.Author.Tests.{ltb-true, ltb-false, leb-true, le-leb}
use Rattle.std.proofs.lemmas.Bool.{and_parts}
use Rattle.std.proofs.Math.Nat.{min-eq_left, min-eq_right, min-le_left}
use Rattle.counts.specs.Text.{is_digit, all_digits, value_from, value, empty}
use Rattle.intake.specs.Positions.{cap, clamp, span, leading, NumberRead}

pub digit_low : (b : ℕ) → is_digit b ≡ true → 48 ≤ b
digit_low b h = leb-true 48 b (and_parts (leb 48 b) (leb b 57) h).0

-- ---- clamping

clamp_step : (v d : ℕ) → clamp (clamp v * 10 + d) ≡ clamp (v * 10 + d)
clamp_step v d = go (ltb cap v) refl
  where
    go : (t : Bool) → ltb cap v ≡ t → clamp (clamp v * 10 + d) ≡ clamp (v * 10 + d)
    go true e =
        let h = ltb-true cap v e in
        rw (min-eq_left {n = cap} {m = v} (omega arith)) (min-eq_left (omega arith) ∙ sym (min-eq_left (omega arith)))
    go false e = rw (min-eq_right (ltb-false cap v e))

clamp_value : (v : ℕ) (bs : List ℕ) → clamp (value_from (clamp v) bs) ≡ clamp (value_from v bs)
unfolding value_from
clamp_value v [] = min-eq_right (min-le_left cap v)
clamp_value v (b ∷ bs) =
    sym (clamp_value (clamp v * 10 + (b - 48)) bs) ∙ ap (λ n. clamp (value_from n bs)) (clamp_step v (b - 48)) ∙ clamp_value (v * 10 + (b - 48)) bs

-- ---- the loop over digits

pub record DigitsRead (bs : List ℕ) (v : ℕ) (rest : List ℕ) : Type 0 where
  pub same : clamp (value_from v (leading rest)) ≡ clamp (value (leading bs))
  pub ends : drop (span rest) rest ≡ drop (span bs) bs
  pub small : v ≤ cap

span_digit : (b : ℕ) (bs : List ℕ) → is_digit b ≡ true → span (b ∷ bs) ≡ suc (span bs)
unfolding span
span_digit b bs h = rw h

span_other : (b : ℕ) (bs : List ℕ) → is_digit b ≡ false → span (b ∷ bs) ≡ 0
unfolding span
span_other b bs h = rw h

-- a byte in front that is a digit, by its value
digit_is : (b : ℕ) → 48 ≤ b → b < 58 → is_digit b ≡ true
digit_is b h k = rw (le-leb 48 b h, le-leb b 57 (omega arith))

digit_not : (b : ℕ) → (48 ≤ b → b < 58 → ⊥) → is_digit b ≡ false
digit_not b h = go (leb 48 b) refl (leb b 57) refl
  where
    go : (t : Bool) → leb 48 b ≡ t → (u : Bool) → leb b 57 ≡ u → (t && u) ≡ false
    go true e true f = absurd (h (leb-true 48 b e) (let l = leb-true b 57 f in omega arith))
    go true e false f = refl
    go false e u f = refl

-- all but the first
pub rest_of : (b : ℕ) (rest : List ℕ) → take (length (b ∷ rest) - 1) (drop 1 (b ∷ rest)) ≡ rest
rest_of b rest = let e : suc (length rest) - 1 ≡ length rest = omega arith in rw e (take_all (length rest) rest (omega arith))

pub rest_two : (b c : ℕ) (rest : List ℕ) → take (length (b ∷ c ∷ rest) - 2) (drop 2 (b ∷ c ∷ rest)) ≡ rest
rest_two b c rest = let e : suc (suc (length rest)) - 2 ≡ length rest = omega arith in rw e (take_all (length rest) rest (omega arith))

-- bytes by their first and the others
pub front_is : (bs : List ℕ) {b : ℕ} → 1 ≤ length bs → get_or bs 0 0 ≡ b → bs ≡ b ∷ take (length bs - 1) (drop 1 bs)
front_is [] h e = absurd (omega arith)
front_is (b ∷ bs) h e = ap₂ ◌∷◌ e (sym (rest_of b bs))

module _ {bs : List ℕ} {v : ℕ} where
  pub reading_turn : (rest : List ℕ) {d w : ℕ} → DigitsRead bs v rest → 1 ≤ length rest → 48 ≤ get_or rest 0 0 → get_or rest 0 0 < 58 → d ≡ get_or rest 0 0 - 48
      → w ≡ min cap (v * 10 + d) → DigitsRead bs w (take (length rest - 1) (drop 1 rest))
  unfolding value_from
  reading_turn [] r h k l e f = absurd (omega arith)
  reading_turn (b ∷ rest) r h k l e f =
      let s = span_digit b rest (digit_is b k l) in
      rw (f, e, rest_of b rest) (record {
        same = clamp_value (v * 10 + (b - 48)) (leading rest) ∙ (rw s at r.same);
        ends = rw s at r.ends;
        small = min-le_left cap (v * 10 + (b - 48));
      })

  -- where no digit stands the number ends
  stop : {rest : List ℕ} → DigitsRead bs v rest → span rest ≡ 0 → (v ≡ clamp (value (leading bs))) × (rest ≡ drop (span bs) bs)
  unfolding value_from
  stop {rest} r s = (sym (min-eq_right r.small) ∙ (rw s at r.same), rw s at r.ends)

  pub reading_end : (rest : List ℕ) → DigitsRead bs v rest → (1 ≤ length rest → 48 ≤ get_or rest 0 0 → get_or rest 0 0 < 58 → ⊥) → (v ≡ clamp (value (leading bs))) × (rest ≡ drop (span bs) bs)
  unfolding span
  reading_end [] r h = stop r refl
  reading_end (b ∷ rest) r h = stop r (span_other b rest (digit_not b (h (omega arith))))

-- ---- a number's ways out

pub leading_digits : (bs : List ℕ) → all_digits (leading bs) ≡ true
unfolding span all_digits
leading_digits [] = refl
leading_digits (b ∷ bs) = go (is_digit b) refl (leading_digits bs)
  where
    go : (t : Bool) → is_digit b ≡ t → all_digits (leading bs) ≡ true → all_digits (take (cond t (suc (span bs)) 0) (b ∷ bs)) ≡ true
    go true e h = rw e h
    go false e h = refl

leading_some : (bs : List ℕ) → (span bs ≡ 0 → ⊥) → empty (leading bs) ≡ false
unfolding span
leading_some [] h = absurd (h refl)
leading_some (b ∷ bs) h = go (is_digit b) refl
  where
    go : (t : Bool) → is_digit b ≡ t → empty (take (cond t (suc (span bs)) 0) (b ∷ bs)) ≡ false
    go true e = refl
    go false e = absurd (h (span_other b bs e))

span_le : (bs : List ℕ) → span bs ≤ length bs
unfolding span
span_le [] = omega arith
span_le (b ∷ bs) = go (is_digit b) (span_le bs)
  where
    go : (t : Bool) → span bs ≤ length bs → cond t (suc (span bs)) 0 ≤ suc (length bs)
    go true h = omega arith
    go false h = omega arith

module _ (limit : ℕ) (bs : List ℕ) {v : ℕ} (e : v ≡ clamp (value (leading bs))) {rest : List ℕ} (r : rest ≡ drop (span bs) bs) where
  -- whether a digit stands in front is whether bytes are behind it
  left : length rest + span bs ≡ length bs
  left = rw (r, length-drop) (omega (arith, span_le bs))

  pub within_limit : limit < cap → (length rest ≡ length bs → ⊥) → v ≤ limit → NumberRead limit bs v rest
  within_limit c n h =
      let w = value (leading bs) in
      let m : clamp w ≡ w = go w (omega (arith, e)) in
      let s : empty (leading bs) ≡ false = leading_some _ (λ z. n (omega (arith, left, z))) in
      let l : leb w limit ≡ true = le-leb w limit (omega (arith, e)) in
      record { fits = rw (s, leading_digits bs, l); value = e ∙ m; behind = r }
    where
      go : (w : ℕ) → clamp w ≤ limit → clamp w ≡ w
      go w q = split (ltb cap w) refl
        where
          split : (t : Bool) → ltb cap w ≡ t → clamp w ≡ w
          split true q' = let a = ltb-true cap w q' in let b = min-eq_left {n = cap} {m = w} (omega arith) in absurd (omega arith)
          split false q' = min-eq_right (ltb-false cap w q')
