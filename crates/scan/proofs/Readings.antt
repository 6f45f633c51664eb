-- The laws of a word's fault, by its kind, and of the loop over the words of a sheet: one for each way out of a turn, and two for the end.
use Prim.Native.Nat.{ℕ, zero, suc, ◌+◌, ◌-◌, ◌≤◌, ◌<◌}
use mathlib.Core.Path.{◌≡◌, refl, sym, ap, subst}
use mathlib.Core.Bool.{Bool, true, false, cond}
use Rattle.std.proofs.Math.Bool.{and-false}
use mathlib.Core.List.{List, [], ◌∷◌}
use mathlib.Core.Logic.{◌⊎◌, inl, inr}
use native.Mathlib.Omega.{arith}
use lib.Dec.{eqb}
use lib.ListN.{length, get_or, take, drop}
use Rattle.std.proofs.lemmas.List.{take_rest}
use borrow.Author.Tests.{lt-leb, eq-eqb, ne_eqb, eqb-true}
use Rattle.sheet.specs.Sheet.{largest_sum, not_counted, kind, payload, place_of, lift_kind, old_kind, new_kind, end_kind}
use Rattle.sheet.specs.Reading.{ScanState, next_state, may_follow, is_place, misplaced, uncounted_newcomer, fault, Reading, faulty, sound, unless_fault, read_from, reading}
use Rattle.reply.specs.Reply.{Numbered, numbered}
use Rattle.scan.specs.Scan.{Kept}

-- a word's reading, then what follows if it is sound
abbrev and_then : Reading → Reading → Reading
and_then (faulty x) rest = faulty x
and_then sound rest = rest

-- which is what `unless_fault` says
unless_then : (n i : ℕ) (rest : Reading) → and_then (unless_fault n i sound) rest ≡ unless_fault n i rest
unless_then zero i rest = refl
unless_then (suc n) i rest = refl

-- ---- a place

-- a word in sequence that holds a place meets no other refusal than 4 and 16
pub place_fault : (s : ScanState) (w : ℕ) → may_follow s.kind (kind w) ≡ true → is_place (kind w) ≡ true → fault s w ≡ cond (misplaced w) 4 (cond (uncounted_newcomer s w) 16 0)
unfolding fault
place_fault s w f h = go (eqb (kind w) old_kind) refl
  where
    go : (t : Bool) → eqb (kind w) old_kind ≡ t → fault s w ≡ cond (misplaced w) 4 (cond (uncounted_newcomer s w) 16 0)
    go true e = let k = eqb-true (kind w) old_kind e in rw (f, k)
    go false e = let k = eqb-true (kind w) new_kind (rw e at h) in rw (f, k)

-- ---- a lift's three words

-- what is known of a word that holds a place of kind k and is counted
abbrev Counted : (k w : ℕ) → Type 0
Counted k w = (kind w ≡ k) × (misplaced w ≡ false) × ((place_of w).measure ≤ largest_sum)

-- a new place that is sound behind old place b, counted or not, since the lift was in a round before
abbrev Returning : (b c : ℕ) → Type 0
Returning b c = (kind c ≡ new_kind) × (misplaced c ≡ false) × (eqb (place_of b).round 0 ≡ false)

-- words of a lift none of which is faulty
pub sound_lift : (s : ScanState) (a b c : ℕ) → may_follow s.kind lift_kind ≡ true → kind a ≡ lift_kind → s.number < payload a → Counted old_kind b → Counted new_kind c ⊎ Returning b c
    → (fault s a ≡ 0) × (fault (next_state s a) b ≡ 0) × (fault (next_state (next_state s a) b) c ≡ 0)
unfolding fault
sound_lift s a b c f k n o p = (
  rw (k, f, ne_eqb (payload a) 0 (omega arith), lt-leb (payload a) s.number n),
  let e = rw o.0 at o.1 in rw (k, o.0, e),
  new_sound p,
)
  where
    new_sound : Counted new_kind c ⊎ Returning b c → fault (next_state (next_state s a) b) c ≡ 0
    new_sound (inl p) = let e = rw p.0 at p.1 in rw (k, o.0, p.0, e, ne_eqb (place_of c).measure not_counted (omega arith), and-false)
    new_sound (inr p) = let e = rw p.0 at p.1 in rw (k, o.0, p.0, e, p.2)

-- ---- the loop

-- a word is at most one lift more
pub one_more : (s : ScanState) (w : ℕ) {t : ScanState} {n : ℕ} → t ≡ next_state s w → s.lifts ≤ n → t.lifts ≤ n + 1
one_more s w n h = rw n (more (eqb (kind w) lift_kind) h)
  where
    more : (t : Bool) {n i : ℕ} → n ≤ i → cond t (n + 1) n ≤ i + 1
    more true h = omega arith
    more false h = omega arith

-- the words behind n words
abbrev behind : ℕ → List ℕ → List ℕ
behind n rest = take (length rest - n) (drop n rest)

-- a turn whose word reads as x
turn : {ws rest : List ℕ} {s : ScanState} {w : ℕ} {x : Reading} → Kept ws s (w ∷ rest) → x ≡ unless_fault (fault s w) (length ws - suc (length rest)) sound
    → and_then x (read_from (next_state s w) (length ws - length rest) rest) ≡ reading ws
unfolding read_from
turn {ws} {rest} {s} {w} k j =
    let e : length ws - suc (length rest) + 1 ≡ length ws - length rest = omega (arith, k.few) in
    rw (j, unless_then (fault s w) (length ws - suc (length rest)), ← k.same, ← e)

one_turn : {ws rest : List ℕ} {s t : ScanState} {w : ℕ} → Kept ws s (w ∷ rest) → sound ≡ unless_fault (fault s w) (length ws - suc (length rest)) sound → t ≡ next_state s w → Kept ws t rest
one_turn {s = s} {w = w} k j n = let m : s.lifts ≤ s.lifts = omega arith in record { same = rw n (turn k j); few = omega (arith, one_more s w n m, k.few) }

-- the words left begin with a word
one_word : (rest : List ℕ) → 1 ≤ length rest → rest ≡ get_or rest 0 0 ∷ behind 1 rest
one_word [] h = absurd (omega arith)
one_word (w ∷ ws) h = rw (take_rest (w ∷ ws) 1) refl

module _ {ws : List ℕ} {s : ScanState} where
  module _ {rest : List ℕ} (h : 1 ≤ length rest) (k : Kept ws s rest) where
    first : Kept ws s (get_or rest 0 0 ∷ behind 1 rest)
    first = subst (Kept ws s) (one_word rest h) k

    -- the position of the first word left
    here : length ws - suc (length (behind 1 rest)) ≡ length ws - length rest
    here = ap (λ us. length ws - length us) (sym (one_word rest h))

    pub stops : {x : Numbered} → faulty x ≡ unless_fault (fault s (get_or rest 0 0)) (length ws - length rest) sound → faulty x ≡ reading ws
    stops {x} j = turn {x = faulty x} first (rw here j)

    pub goes_on : {t : ScanState} → sound ≡ unless_fault (fault s (get_or rest 0 0)) (length ws - length rest) sound → t ≡ next_state s (get_or rest 0 0) → Kept ws t (behind 1 rest)
    goes_on j n = one_turn first (rw here j) n

  -- three turns at once, each by a word that is not faulty
  pub goes_on_three : {rest : List ℕ} {t u v : ScanState} → 3 ≤ length rest → Kept ws s rest
      → (fault s (get_or rest 0 0) ≡ 0) × (fault (next_state s (get_or rest 0 0)) (get_or rest 1 0) ≡ 0) × (fault (next_state (next_state s (get_or rest 0 0)) (get_or rest 1 0)) (get_or rest 2 0) ≡ 0)
      → t ≡ next_state s (get_or rest 0 0) → u ≡ next_state t (get_or rest 1 0) → v ≡ next_state u (get_or rest 2 0) → Kept ws v (behind 3 rest)
  goes_on_three {rest = []} h k f p q r = absurd (omega arith)
  goes_on_three {rest = a ∷ []} h k f p q r = absurd (omega arith)
  goes_on_three {rest = a ∷ b ∷ []} h k f p q r = absurd (omega arith)
  goes_on_three {rest = a ∷ b ∷ c ∷ rest} h k f p q r = rw (take_rest (a ∷ b ∷ c ∷ rest) 3) (one_turn (one_turn (one_turn k (rw f.0) p) (rw (p, f.1)) q) (rw (q, p, f.2)) r)

  -- past the last word the kind decides
  last : {rest : List ℕ} → length rest < 1 → Kept ws s rest → cond (eqb s.kind end_kind) sound (faulty (numbered 2 (length ws))) ≡ reading ws
  unfolding read_from
  last {rest = []} h k = let e : length ws - 0 ≡ length ws = omega arith in rw e at k.same
  last {rest = w ∷ rest} h k = absurd (omega arith)

  pub ends : {rest : List ℕ} → length rest < 1 → Kept ws s rest → s.kind ≡ end_kind → sound ≡ reading ws
  ends h k e = rw (eq-eqb _ _ e) at (last h k)

  pub stays_open : {rest : List ℕ} → length rest < 1 → Kept ws s rest → (s.kind ≡ end_kind → ⊥) → faulty (numbered 2 (length ws)) ≡ reading ws
  stays_open h k e = rw (ne_eqb _ _ e) at (last h k)

-- what proves the turns and the ends of the loop: `search turns`
pub ruleset turns = (stops, goes_on, goes_on_three, ends, stays_open)
