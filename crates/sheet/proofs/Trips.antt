-- Reading and writing are inverse. The words of lifts pass one by one and read back as these lifts (`lifts_pass`, `lifts_back`); words that
-- pass are parsed into those of some lifts (`parse`), and so these are the lifts that they encode.
use Prim.Native.Nat.{ℕ, zero, suc, ◌+◌, ◌^◌, ◌≤◌, ◌<◌}
use mathlib.Core.Path.{◌≡◌, refl, sym, ap, ap₂, ◌∙◌}
use mathlib.Core.Bool.{Bool, true, false, cond, not, ◌&&◌, ◌||◌, true≢false, false≢true, not-eq-not, and-eq-true_iff}
use mathlib.Core.List.{List, [], ◌∷◌, ◌++◌}
use mathlib.Core.Logic.{⊎_elim}
use native.Mathlib.Nat.{zero-add}
use native.Mathlib.Omega.{arith}
use lib.ListN.{length, get_or}
use lib.Dec.{eqb, ltb}
use borrow.Author.Tests.{eqb-true, eqb-false, eq-eqb, ne_eqb, leb-false, lt-leb, ltb-false, le-ltb, not-false}
use Rattle.std.proofs.lemmas.Bool.{or_parts, or_cases}
use Rattle.sheet.specs.Sheet.{most_lifts, most_rounds, largest_sum, not_counted, kind, payload, lift_kind, old_kind, new_kind, held_kind, end_kind, Place, place_of, Lift, lifts, word, place_word, lift_words, words_then, sheet_of}
use Rattle.sheet.specs.Reading.{ScanState, start_state, next_state, may_follow, out_of_sequence, misnumbered, is_place, too_large, beyond, misplaced, uncounted_newcomer, miscounted, mismarked, fault, Reading, sound, unless_fault, read_from}
use Rattle.sheet.specs.Law.{PlaceWellFormed, LiftWellFormed, AllWellFormed, WellFormed, ReadBackTheorem, WrittenBackTheorem, WritablePlace, AllWritable, BackTheorem}

-- the state of the scan, from its parts
abbrev state : ℕ → ℕ → ℕ → ℕ → ScanState
state k n o c = record { kind = k; number = n; old = o; lifts = c }

-- the held mark of a lift, and what follows
abbrev marked : Bool → List ℕ → List ℕ
marked held ws = cond held (word held_kind 0 ∷ []) [] ++ ws

-- a kind behind which no lift is under way
abbrev Free : ℕ → Type 0
Free k = (j : ℕ) → may_follow k j ≡ (eqb j lift_kind || eqb j end_kind || eqb k new_kind && eqb j held_kind)

-- ---- a word that passes

-- a number for the first of some tests that holds: 0 if none does
not_held : (n : ℕ) (a : Bool) {r : ℕ} → cond a (suc n) r ≡ 0 → (a ≡ false) × (r ≡ 0)
not_held n true h = absurd (omega arith)
not_held n false h = (refl, h)

-- what is known of a word without a fault, by its kind
record Passes (s : ScanState) (w : ℕ) : Type 0 where
  order : may_follow s.kind (kind w) ≡ true
  number : kind w ≡ lift_kind → s.number < payload w
  place : is_place (kind w) ≡ true → PlaceWellFormed (kind w) (place_of w)
  newcomer : kind w ≡ new_kind → (place_of s.old).round ≡ 0 → (place_of w).measure ≡ not_counted → ⊥
  count : kind w ≡ end_kind → (payload w ≡ s.lifts) × (payload w ≤ most_lifts)
  mark : kind w ≡ held_kind → (payload w ≡ 0) × (0 < (place_of s.old).measure)

passes : (s : ScanState) (w : ℕ) → fault s w ≡ 0 → Passes s w
unfolding fault
passes s w h =
    let f2 = not_held 1 (out_of_sequence s w) h in
    let f3 = not_held 2 (misnumbered s w) f2.1 in
    let f4 = not_held 3 (misplaced w) f3.1 in
    let f16 = not_held 15 (uncounted_newcomer s w) f4.1 in
    let f5 = not_held 4 (miscounted s w) f16.1 in
    let f6 = not_held 5 (mismarked s w) f5.1 in
    record {
      order = not-false _ f2.0;
      number = λ e. leb-false _ _ (or_parts (eqb (payload w) 0) _ (rw e at f3.0)).1;
      place = λ e.
          let g = or_parts _ _ (rw e at f4.0) in
          let b = or_parts (ltb most_rounds (place_of w).round) _ g.0 in
          record { round = ltb-false _ _ b.0; measure = b.1; nowhere = λ z. eqb-true _ _ (not-false _ (rw (eq-eqb _ _ z) at g.1)) };
      newcomer = λ e z. eqb-false _ _ (rw (e, eq-eqb _ _ z) at f16.0);
      count = λ e. let g = or_parts _ _ (rw e at f5.0) in (eqb-true _ _ (not-false _ g.0), ltb-false _ _ g.1);
      mark = λ e. let g = or_parts _ _ (rw e at f6.0) in (eqb-true _ _ (not-false _ g.0), omega (arith, eqb-false (place_of s.old).measure 0 g.1));
    }

-- ---- words that pass

unless_sound : (n i : ℕ) (r : Reading) → unless_fault n i r ≡ sound → (n ≡ 0) × (r ≡ sound)
unless_sound zero i r h = (refl, h)
unless_sound (suc n) i r h = let z : ◌≡◌ {A = ℕ} 0 1 = cc in absurd (omega arith)

-- the first of words that pass does, and those behind it
first_passes : (s : ScanState) (i w : ℕ) (ws : List ℕ) → read_from s i (w ∷ ws) ≡ sound → Passes s w × (read_from (next_state s w) (i + 1) ws ≡ sound)
unfolding read_from
first_passes s i w ws h = let f = unless_sound (fault s w) i (read_from (next_state s w) (i + 1) ws) h in (passes s w f.0, f.1)

-- behind another word than the end there are more
pub not_ended : (s : ScanState) (i : ℕ) → eqb s.kind end_kind ≡ false → read_from s i [] ≡ sound → ⊥
unfolding read_from
not_ended s i e h = let g = rw e at h in let z : ◌≡◌ {A = ℕ} 0 1 = cc in omega arith

-- behind the end there are none
ended : (s : ScanState) (i : ℕ) (ws : List ℕ) → s.kind ≡ end_kind → read_from s i ws ≡ sound → [] ≡ ws
ended s i [] e h = refl
ended s i (w ∷ ws) e h = absurd (false≢true (rw e at (first_passes s i w ws h).0.order))

-- the words of lifts and the end, perhaps behind a held mark of the lift before
record Parsed (s : ScanState) (ws : List ℕ) : Type 0 where
  held : Bool
  mark : held ≡ true → (eqb s.kind new_kind ≡ true) × (0 < (place_of s.old).measure)
  list : List Lift
  listed : AllWellFormed s.number list
  few : s.lifts + length list ≤ most_lifts
  back : marked held (words_then list (word end_kind (s.lifts + length list) ∷ [])) ≡ ws

-- behind another word than a new place there is no mark
unmarked : {s : ScanState} {ws : List ℕ} (t : Parsed s ws) → eqb s.kind new_kind ≡ false → words_then t.list (word end_kind (s.lifts + length t.list) ∷ []) ≡ ws
unmarked t e = rw ((not-eq-not {b = false}).0 (λ h. true≢false (sym (t.mark h).0 ∙ e))) at t.back

-- by the kind of the first word: a lift, the end or a held mark
by_kind : (s : ScanState) (i w : ℕ) (ws : List ℕ) → Free s.kind → read_from s i (w ∷ ws) ≡ sound
    → (kind w ≡ lift_kind → s.number < payload w → read_from (state lift_kind (payload w) s.old (s.lifts + 1)) (i + 1) ws ≡ sound → Parsed s (w ∷ ws))
    → (read_from (state held_kind s.number s.old s.lifts) (i + 1) ws ≡ sound → Parsed (state held_kind s.number s.old s.lifts) ws)
    → Parsed s (w ∷ ws)
unfolding words_then AllWellFormed
by_kind s i w ws o h lift held =
    let f = first_passes s i w ws h in
    ⊎_elim (λ le. ⊎_elim
    (λ l. let e = eqb-true _ _ l in lift e (f.0.number e) (rw e at f.1))
    (λ l.
    let e = eqb-true (kind w) end_kind l in
    let c = f.0.count e in
    record { held = false; mark = λ q. absurd (false≢true q); list = []; listed = tt; few = omega arith; back = ap₂ ◌∷◌ (omega arith) (ended _ _ ws e f.1) }) (or_cases _ _ le))
    (λ m.
    let k = (and-eq-true_iff _ _).0 m in
    let e = eqb-true (kind w) held_kind k.1 in
    let t = held (rw e at f.1) in
    let z = f.0.mark e in
    record { held = true; mark = λ _. (k.0, z.1); list = t.list; listed = t.listed; few = t.few; back = ap₂ ◌∷◌ (omega (arith, z.0)) (unmarked t refl) })
    (or_cases _ _ (sym (o (kind w)) ∙ f.0.order))

-- and the words of one lift more before them
lift_read : (s : ScanState) (w v u : ℕ) (ws : List ℕ) → kind w ≡ lift_kind → s.number < payload w → kind v ≡ old_kind → PlaceWellFormed old_kind (place_of v) → kind u ≡ new_kind
    → PlaceWellFormed new_kind (place_of u) → ((place_of v).round ≡ 0 → (place_of u).measure ≡ not_counted → ⊥)
    → Parsed (state new_kind (payload w) v (s.lifts + 1)) ws → Parsed s (w ∷ v ∷ u ∷ ws)
unfolding words_then AllWellFormed
lift_read s w v u ws a l b old c new known t =
    let e : s.lifts + suc (length t.list) ≡ s.lifts + 1 + length t.list = omega arith in
    record {
      held = false;
      mark = λ q. absurd (false≢true q);
      list = record { number = payload w; old = place_of v; new = place_of u; held = t.held } ∷ t.list;
      listed = (record { rises = l; payload = omega arith; old = old; new = new; newcomer = known; held = λ q. (t.mark q).1 }, t.listed);
      few = omega (arith, t.few);
      back = rw e (ap₂ ◌∷◌ (omega arith) (ap₂ ◌∷◌ (omega arith) (ap₂ ◌∷◌ (omega arith) t.back)));
    }

-- words that pass are the words of lifts
parse : (s : ScanState) (i : ℕ) (ws : List ℕ) → Free s.kind → read_from s i ws ≡ sound → Parsed s ws
parse s i [] o h = absurd (not_ended s i (ne_eqb s.kind end_kind (λ e. false≢true (rw e at (o lift_kind)))) h)
parse s i (w ∷ []) o h = by_kind s i w [] o h (λ a l g. absurd (not_ended _ _ refl g)) (parse (state held_kind s.number s.old s.lifts) _ [] (λ j. refl))
parse s i (w ∷ v ∷ []) o h =
    by_kind s i w (v ∷ []) o h
    (λ a l g. let f = first_passes _ _ v [] g in let b = eqb-true (kind v) old_kind f.0.order in absurd (not_ended _ _ refl (rw b at f.1)))
    (parse _ _ (v ∷ []) (λ j. refl))
parse s i (w ∷ v ∷ u ∷ ws) o h =
    by_kind s i w (v ∷ u ∷ ws) o h
    (λ a l g.
    let f = first_passes _ _ v (u ∷ ws) g in
    let b = eqb-true (kind v) old_kind f.0.order in
    let e = first_passes _ _ u ws (rw b at f.1) in
    let c = eqb-true (kind u) new_kind e.0.order in
    lift_read s w v u ws a l b (rw b at (f.0.place (rw b))) c (rw c at (e.0.place (rw c))) (e.0.newcomer c) (parse _ _ ws (λ j. refl) (rw c at e.1)))
    (parse _ _ (v ∷ u ∷ ws) (λ j. refl))

-- ---- the words of lifts

pub kind_word : (k p : ℕ) → p < 2 ^ 28 → kind (word k p) ≡ k
kind_word k p h = omega arith

pub payload_word : (k p : ℕ) → p < 2 ^ 28 → payload (word k p) ≡ p
payload_word k p h = omega arith

module _ (k : ℕ) (p : Place) (h : WritablePlace p) where
  pub kind_place : kind (place_word k p) ≡ k
  kind_place = omega arith

  round_place : (place_of (place_word k p)).round ≡ p.round
  round_place = omega arith

  measure_place : (place_of (place_word k p)).measure ≡ p.measure
  measure_place = omega arith

-- a measure that is not too large has 21 bits
measure_below : (k m : ℕ) → too_large k m ≡ false → m < 2 ^ 21
measure_below k m h = go (ltb largest_sum m) refl h
  where
    go : (a : Bool) → ltb largest_sum m ≡ a → (a && not (eqb k new_kind && eqb m not_counted)) ≡ false → m < 2 ^ 21
    go true e q = omega (arith, eqb-true m not_counted ((and-eq-true_iff (eqb k new_kind) (eqb m not_counted)).0 (not-false _ q)).1)
    go false e q = omega (arith, ltb-false largest_sum m e)

pub placed_writable : {k : ℕ} {p : Place} → PlaceWellFormed k p → WritablePlace p
placed_writable {k} {p} h = record { round = omega (arith, h.round); measure = measure_below k p.measure h.measure }

all_writable : (n : ℕ) (ls : List Lift) → AllWellFormed n ls → AllWritable ls
unfolding AllWellFormed AllWritable
all_writable n [] h = tt
all_writable n (l ∷ ls) (p, q) =
    (record { number = p.payload; old = placed_writable p.old; new = placed_writable p.new }, all_writable l.number ls q)

-- b is not so where a number is n
and_false : (m n : ℕ) (b : Bool) → (m ≡ n → b ≡ false) → (eqb m n && b) ≡ false
and_false m n b h = go (eqb m n) refl
  where
    go : (t : Bool) → eqb m n ≡ t → (t && b) ≡ false
    go true e = h (eqb-true m n e)
    go false e = refl

not_beyond : (k : ℕ) (p : Place) → PlaceWellFormed k p → beyond k p.round p.measure ≡ false
not_beyond k p h = rw (le-ltb most_rounds p.round h.round, h.measure) (and_false p.round 0 _ (λ e. ap not (eq-eqb _ _ (h.nowhere e))))

-- a held mark passes if what follows does
mark_passes : (n o c i : ℕ) (ws : List ℕ) (held : Bool) → (held ≡ true → 0 < (place_of o).measure)
    → ((k j : ℕ) → Free k → read_from (state k n o c) j ws ≡ sound) → read_from (state new_kind n o c) i (marked held ws) ≡ sound
unfolding read_from fault
mark_passes n o c i ws true m r = let l = m refl in rw (ne_eqb (place_of o).measure 0 (omega arith)) (r held_kind (i + 1) (λ j. refl))
mark_passes n o c i ws false m r = r new_kind i (λ j. refl)

-- a lift passes if what follows does
lift_passes : (s : ScanState) (i : ℕ) (ws : List ℕ) (l : Lift) → Free s.kind → LiftWellFormed s.number l
    → ((k j : ℕ) → Free k → read_from (state k l.number (place_word old_kind l.old) (s.lifts + 1)) j ws ≡ sound) → read_from s i (lift_words l ++ ws) ≡ sound
unfolding read_from fault
lift_passes s i ws l o p r =
    let u = placed_writable p.old in
    let v = placed_writable p.new in
    rw (kind_word lift_kind l.number p.payload, payload_word lift_kind l.number p.payload, o lift_kind, ne_eqb l.number 0 (omega arith), lt-leb l.number s.number p.rises)
    (rw (kind_place old_kind l.old u, round_place old_kind l.old u, measure_place old_kind l.old u, not_beyond old_kind l.old p.old)
    (rw (kind_place new_kind l.new v, round_place new_kind l.new v, measure_place new_kind l.new v, not_beyond new_kind l.new p.new)
    (rw (and_false l.old.round 0 _ (λ e. ne_eqb l.new.measure not_counted (p.newcomer e)))
    (mark_passes _ _ _ _ ws l.held (λ h. rw (measure_place old_kind l.old u) (p.held h)) r))))

-- lifts pass, with an end word that counts them
lifts_pass : (s : ScanState) (i e : ℕ) (ls : List Lift) → Free s.kind → AllWellFormed s.number ls → e ≡ s.lifts + length ls → e ≤ most_lifts
    → read_from s i (words_then ls (word end_kind e ∷ [])) ≡ sound
unfolding read_from fault words_then AllWellFormed
lifts_pass s i e [] o p c f = rw (kind_word end_kind e (omega arith), payload_word end_kind e (omega arith), o end_kind, eq-eqb e s.lifts (omega arith), le-ltb most_lifts e f)
lifts_pass s i e (l ∷ ls) o p c f = lift_passes s i _ l o p.0 (λ k j o. lifts_pass (state k l.number (place_word old_kind l.old) (s.lifts + 1)) j e ls o p.1 (omega arith) f)

-- a held mark is read back, before a word that is none
mark_back : (held : Bool) (ws : List ℕ) → eqb (kind (get_or ws 0 0)) held_kind ≡ false
    → (eqb (kind (get_or (marked held ws) 0 0)) held_kind ≡ held) × (lifts (marked held ws) ≡ lifts ws)
unfolding lifts
mark_back true ws h = (refl, refl)
mark_back false ws h = (h, refl)

-- the words of lifts begin with no held mark, and the lifts are read back
lifts_back : (e : ℕ) (ls : List Lift) → e < 2 ^ 28 → AllWritable ls
    → (eqb (kind (get_or (words_then ls (word end_kind e ∷ [])) 0 0)) held_kind ≡ false) × (lifts (words_then ls (word end_kind e ∷ [])) ≡ ls)
unfolding lifts words_then AllWritable
lifts_back e [] f p = (rw (kind_word end_kind e f), rw (kind_word end_kind e f))
lifts_back e (l ∷ ls) f (p, q) =
    let r = lifts_back e ls f q in
    let m = mark_back l.held (words_then ls (word end_kind e ∷ [])) r.0 in (
      rw (kind_word lift_kind l.number p.number),
      rw (kind_word lift_kind l.number p.number, kind_place old_kind l.old p.old, kind_place new_kind l.new p.new)
          (rw (payload_word lift_kind l.number p.number, round_place old_kind l.old p.old, measure_place old_kind l.old p.old)
          (rw (round_place new_kind l.new p.new, measure_place new_kind l.new p.new, m.0, m.1, r.1))),
    )

pub back_theorem : BackTheorem
back_theorem ls h f = (lifts_back (length ls) ls f h).1

pub written_theorem : WrittenBackTheorem
written_theorem ls h =
    record {
      sound = lifts_pass start_state 0 (length ls) ls (λ j. refl) h.listed (omega arith) h.few;
      back = back_theorem ls (all_writable 0 ls h.listed) (omega (arith, h.few));
    }

pub read_theorem : ReadBackTheorem
read_theorem ws h = rw (← back) (record { back = ap sheet_of again; well_formed = rw again well_formed })
  where
    t : Parsed start_state ws
    t = parse start_state 0 ws (λ j. refl) h

    well_formed : WellFormed t.list
    well_formed = record { listed = t.listed; few = omega (arith, t.few) }

    again : lifts (sheet_of t.list) ≡ t.list
    again = (written_theorem t.list well_formed).back

    back : sheet_of t.list ≡ ws
    back = rw (zero-add (length t.list)) at (unmarked t refl)
