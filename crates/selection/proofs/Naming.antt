-- Numbers rise, so a selection names one lift in each old round in use, and no other.
use Prim.Native.Nat.{ℕ, ◌+◌, ◌≤◌, ◌<◌}
use mathlib.Core.Path.{◌≡◌, refl, sym, ap, ◌∙◌}
use mathlib.Core.Bool.{Bool, true, false, cond, ◌&&◌, ◌||◌, or-true, and-eq-true_iff, false≢true}
use mathlib.Core.List.Memᴰ
use mathlib.Core.List.{List, [], ◌∷◌, map, Memᴰ}
use mathlib.Core.Logic.{◌⊎◌, inl, inr}
use native.Mathlib.Omega.{arith}
use native.Mathlib.Nat.{add-zero}
use lib.Dec.{eqb, ltb}
use borrow.Author.Tests.{eqb-true, eq-eqb, ne_eqb, ltb-true}
use Rattle.probability.specs.Among.{among}
use Rattle.probability.specs.Sum.{total_by, indicator}
use Rattle.probability.proofs.Lists.{All, all_none, all_more, all_keep, all_append, all_map}
use Rattle.probability.proofs.Sums.{total_by_none, total_by_sum, total_by_le}
use Rattle.sheet.specs.Sheet.{Lift}
use Rattle.sheet.specs.Law.{AllWellFormed}
use Rattle.selection.specs.Initial.{eligible, each, selections_from, names}
use Rattle.selection.proofs.Held.{old_round, proper}

-- ---- lifts of one number

-- a number names one lift
pub same : {a : Lift} {ls : List Lift} → Memᴰ a ls → (n : ℕ) → AllWellFormed n ls → All (λ l. a.number ≡ l.number → a ≡ l) ls
unfolding AllWellFormed
same {a} (Memᴰ.head {x = x} {xs = ls} e) n d =
    all_more (λ l. a.number ≡ l.number → a ≡ l) (λ _. e) (λ l m q. absurd (omega (arith, (proper x.number ls d.1 l m).rises, ap (λ y. y.number) e)))
same {a} (Memᴰ.tail {x = x} {xs = ls} h) n d =
    all_more (λ l. a.number ≡ l.number → a ≡ l) (λ q. absurd (omega (arith, (proper x.number ls d.1 a h).rises))) (same h x.number d.1)

-- and stands there once
once : (key : Lift → ℕ) (t : ℕ) {a : Lift} {ls : List Lift} → Memᴰ a ls → (n : ℕ) → AllWellFormed n ls
    → total_by key (λ l. indicator (eqb a.number l.number)) t ls ≡ cond (eqb (key a) t) 1 0
unfolding AllWellFormed total_by
once key t {a} (Memᴰ.head {x = x} {xs = ls} e) n d =
    rw (e, eq-eqb x.number x.number refl)
    (ap (λ n. cond (eqb (key x) t) 1 0 + n)
    (total_by_none key t (λ l. indicator (eqb a.number l.number)) ls
    (λ l m _. ap indicator (ne_eqb a.number l.number (λ q. omega (arith, (proper x.number ls d.1 l m).rises, ap (λ y. y.number) e)))))
    ∙ add-zero _)
once key t {a} (Memᴰ.tail {x = x} {xs = ls} h) n d =
    rw (ne_eqb a.number x.number (λ q. omega (arith, (proper x.number ls d.1 a h).rises)))
    (nothing (eqb (key x) t) ∙ once key t h x.number d.1)
  where
    nothing : {n : ℕ} (b : Bool) → cond b 0 0 + n ≡ n
    nothing true = omega arith
    nothing false = omega arith

-- ---- selections

-- what holds of the lifts of old round t and old measure above 0
eligible_all : (P : Lift → Type 0) (t : ℕ) (ls : List Lift) → All (λ l. l.old.round ≡ t → 0 < l.old.measure → P l) ls → All P (eligible t ls)
unfolding eligible
eligible_all P t [] h = all_none P
eligible_all P t (l ∷ ls) h =
    all_keep P (eqb l.old.round t && ltb 0 l.old.measure)
    (λ e.
    let f = (and-eq-true_iff (eqb l.old.round t) (ltb 0 l.old.measure)).0 e in
    h l (Memᴰ.head refl) (eqb-true l.old.round t f.0) (ltb-true 0 l.old.measure f.1))
    (eligible_all P t ls (λ k m. h k (Memᴰ.tail m)))

-- what holds of each of some lifts before each of some selections
each_all : (P : List Lift → Type 0) (ls : List Lift) (ms : List (List Lift)) → All (λ l. All (λ m. P (l ∷ m)) ms) ls → All P (each ls ms)
unfolding each
each_all P [] ms h = all_none P
each_all P (l ∷ ls) ms h =
    all_append P (map (λ m. l ∷ m) ms) (all_map P (λ m. l ∷ m) ms (h l (Memᴰ.head refl))) (each_all P ls ms (λ k i. h k (Memᴰ.tail i)))

-- for each of some old rounds a lift of old measure above 0
pub data Selected (ls : List Lift) : List ℕ → List Lift → Type 0 where
  none : Selected ls [] []
  some : {t : ℕ} {ts : List ℕ} {a : Lift} {m : List Lift} → Memᴰ a ls → a.old.round ≡ t → 0 < a.old.measure → Selected ls ts m
      → Selected ls (t ∷ ts) (a ∷ m)

-- every selection has them
pub selected : (ts : List ℕ) (ls : List Lift) → All (Selected ls ts) (selections_from ts ls)
unfolding selections_from
selected [] ls = all_more (Selected ls []) none (all_none (Selected ls []))
selected (t ∷ ts) ls =
    each_all (Selected ls (t ∷ ts)) (eligible t ls) (selections_from ts ls)
    (eligible_all (λ a. All (λ m. Selected ls (t ∷ ts) (a ∷ m)) (selections_from ts ls)) t ls (λ a i e p m k. some i e p (selected ts ls m k)))

-- ---- the lifts that a selection names

or_most : (a b : Bool) → indicator (a || b) ≤ indicator a + indicator b
or_most true b = omega arith
or_most false b = omega arith

or_left : (a b : Bool) → indicator a ≤ indicator (a || b)
or_left true b = omega arith
or_left false b = omega arith

or_right : (a b : Bool) → indicator b ≤ indicator (a || b)
or_right a true = rw (or-true a) (omega arith)
or_right a false = omega arith

-- how many lifts of old round t a selection names
abbrev pub count : List Lift → ℕ → List Lift → ℕ
count ls t m = total_by old_round (λ l. indicator (names m l.number)) t ls

module _ (ls : List Lift) (d : AllWellFormed 0 ls) where
  -- a lift that is named has old measure above 0
  pub measured : {ts : List ℕ} {m : List Lift} → Selected ls ts m → All (λ l. names m l.number ≡ true → 0 < l.old.measure) ls
  unfolding among
  measured none l i e = absurd (false≢true e)
  measured (some {a = a} {m = m} h q p s) l i e = go (eqb a.number l.number) refl e (measured s l i)
    where
      go : (x : Bool) → eqb a.number l.number ≡ x → (x || names m l.number) ≡ true → (names m l.number ≡ true → 0 < l.old.measure) → 0 < l.old.measure
      go true f e r = rw (same h 0 d l i (eqb-true a.number l.number f)) at p
      go false f e r = r e

  module _ (t : ℕ) where
    -- at most as many are named as there are rounds t
    pub most : {ts : List ℕ} {m : List Lift} → Selected ls ts m → count ls t m ≤ total_by (λ s. s) (λ _. 1) t ts
    unfolding among total_by
    most none = omega (arith, total_by_none old_round t (λ _. 0) ls (λ l i e. refl))
    most (some {a = a} {m = m} h q p s) =
        rw (← q)
        (omega (
          arith,
          once old_round t h 0 d,
          most s,
          total_by_sum old_round t (λ l. indicator (names (a ∷ m) l.number)) (λ l. indicator (eqb a.number l.number)) (λ l. indicator (names m l.number))
              (λ l. or_most (eqb a.number l.number) (names m l.number)) ls,
        ))

    -- and one, if there is one
    pub least : {ts : List ℕ} {m : List Lift} → Selected ls ts m → Memᴰ t ts → 1 ≤ count ls t m
    unfolding among
    least none i = absurd (Memᴰ.not-nil i)
    least (some {t = s} {ts = ts} {a = a} {m = m} h q p r) i = go (Memᴰ.cases_cons i) (least r)
      where
        more : (v : Lift → ℕ) → ((l : Lift) → v l ≤ indicator (names (a ∷ m) l.number)) → total_by old_round v t ls ≤ count ls t (a ∷ m)
        more v f = total_by_le old_round t v (λ l. indicator (names (a ∷ m) l.number)) f ls

        go : (t ≡ s) ⊎ Memᴰ t ts → (Memᴰ t ts → 1 ≤ count ls t m) → 1 ≤ count ls t (a ∷ m)
        go (inl e) f =
            let o : ◌≡◌ {A = ℕ} (cond (eqb a.old.round t) 1 0) 1 = rw (eq-eqb a.old.round t (q ∙ sym e)) in
            omega (arith, once old_round t h 0 d, more (λ l. indicator (eqb a.number l.number)) (λ l. or_left (eqb a.number l.number) (names m l.number)))
        go (inr k) f = omega (arith, f k, more (λ l. indicator (names m l.number)) (λ l. or_right (eqb a.number l.number) (names m l.number)))
