-- Where lifts fit, the marks of a round are the held lifts that its choice starts from.
use Prim.Native.Nat.{ℕ, zero, suc, ◌≤◌}
use mathlib.Core.Path.{◌≡◌, refl, sym, ap, ap₂, ◌∙◌}
use mathlib.Core.Bool.{Bool, true, false, cond, ◌&&◌, ◌||◌, or-true, and-false, and-or_distrib_left, false≢true}
use mathlib.Core.List.{List, [], ◌∷◌, map, Memᴰ}
use native.Mathlib.Nat.{le_trans}
use native.Mathlib.Omega.{arith}
use lib.Dec.{eqb, eqb-suc-zero, eqb-zero-suc, eqb-suc-suc}
use lib.ListN.{get_or}
use borrow.Author.Tests.{eqb-true, eq-eqb, lt-ltb}
use Rattle.probability.specs.Sum.{total_by, indicator}
use Rattle.probability.proofs.Lists.{All, all_none, all_keep, all_get_d}
use Rattle.round.specs.Choice.{is_here, is_held}
use Rattle.probability.specs.Among.{among}
use Rattle.probability.specs.Initial.{Initial, here, elsewhere}
use Rattle.probability.proofs.Tests.{eqb_comm}
use Rattle.reply.specs.declared.Refusal.{Refusal}
use Rattle.sheet.specs.Sheet.{most_rounds, Lift}
use Rattle.sheet.specs.Law.{AllWellFormed}
use Rattle.tally.specs.Law.{FitBy}
use Rattle.tally.proofs.Ranges.{filter_has}
use Rattle.tally.specs.Rounds.{brings, sends, donors, of_round, held_count, further, held_at}
use Rattle.selection.specs.Choice.{held_of_round, no_lift, lift_in_round}
use Rattle.selection.proofs.Sums.{of_round_le}
use Rattle.selection.proofs.Held.{proper, somewhere, held_one}

-- ---- the marks of a round

-- whether a lift is held and of old round t
abbrev holds : ℕ → Lift → Bool
holds t l = l.held && eqb l.old.round t

-- if it is, it counts
holds_counts : (t : ℕ) (l : Lift) → indicator (holds t l) ≡ cond (eqb l.old.round t) (indicator l.held) 0
holds_counts t l = go l.held (eqb l.old.round t)
  where
    go : (x y : Bool) → indicator (x && y) ≡ cond y (indicator x) 0
    go true true = refl
    go true false = refl
    go false true = refl
    go false false = refl

-- where none counts, none is
none_holds : (t : ℕ) (ls : List Lift) → held_count t ls ≡ 0 → (i : ℕ) → holds t (get_or ls i no_lift) ≡ false
unfolding total_by
none_holds t [] e i = refl
none_holds t (l ∷ ls) e zero = go (holds t l) (omega (arith, holds_counts t l))
  where
    go : (x : Bool) → indicator x ≡ 0 → x ≡ false
    go true e = absurd (omega arith)
    go false e = refl
none_holds t (l ∷ ls) e (suc i) = none_holds t ls (omega arith) i

-- where at most one lift is, its place is found
found : (t : ℕ) (ls : List Lift) → held_count t ls ≤ 1 → (i : ℕ) → is_here (held_at t ls) i ≡ holds t (get_or ls i no_lift)
unfolding held_at total_by
found t [] h i = refl
found t (l ∷ ls) h zero = go (holds t l) (held_at t ls)
  where
    go : (x : Bool) (p : Initial) → is_here (cond x (here 0) (further p)) 0 ≡ x
    go true p = refl
    go false (here j) = eqb-suc-zero j
    go false elsewhere = refl
found t (l ∷ ls) h (suc i) = go (holds t l) refl (held_at t ls) (found t ls (omega arith) i)
  where
    go : (x : Bool) → holds t l ≡ x → (p : Initial) → is_here p i ≡ holds t (get_or ls i no_lift) → is_here (cond x (here 0) (further p)) (suc i) ≡ holds t (get_or ls i no_lift)
    go true e p q = eqb-zero-suc i ∙ sym (none_holds t ls (omega (arith, holds_counts t l, ap indicator e)) i)
    go false e (here j) q = eqb-suc-suc j i ∙ q
    go false e elsewhere q = q

both : (b c : Bool) → (b ≡ true → c ≡ true) → b ≡ (b && c)
both true c h = sym (h refl)
both false c h = refl

-- the held lifts of some old rounds are the marks of their lifts, where each has at most one
marks_among : (ls : List Lift) → ((t : ℕ) → held_count t ls ≤ 1) → (i : ℕ) (ds : List ℕ)
    → is_held (map (λ t. held_at t ls) ds) i ≡ ((get_or ls i no_lift).held && among (get_or ls i no_lift).old.round ds)
unfolding among
marks_among ls h i [] = sym (and-false (get_or ls i no_lift).held)
marks_among ls h i (d ∷ ds) =
    let l = get_or ls i no_lift in
    ap₂ ◌||◌ (found d ls (h d) i ∙ ap (λ x. l.held && x) (eqb_comm l.old.round d)) (marks_among ls h i ds)
    ∙ sym (and-or_distrib_left l.held (eqb d l.old.round) (among l.old.round ds))

among_has : {t : ℕ} {ds : List ℕ} → Memᴰ t ds → among t ds ≡ true
unfolding among
among_has {t} (Memᴰ.head e) = rw (eq-eqb _ t (sym e))
among_has {t} (Memᴰ.tail {x = d} m) = rw (among_has m) (or-true (eqb d t))

-- what holds of the lifts of new round r
pub of_round_all : (P : Lift → Type 0) (r : ℕ) (ls : List Lift) → All (λ l. l.new.round ≡ r → P l) ls → All P (of_round r ls)
unfolding of_round
of_round_all P r [] h = all_none P
of_round_all P r (l ∷ ls) h =
    all_keep P (eqb l.new.round r) (λ e. h l (Memᴰ.head refl) (eqb-true l.new.round r e)) (of_round_all P r ls (λ k m. h k (Memᴰ.tail m)))

-- a lift of old measure above 0 makes its old round a donor
pub sends_has : (t r : ℕ) {l : Lift} {ls : List Lift} → Memᴰ l ls → brings t r l ≡ true → sends t r ls ≡ true
unfolding sends
sends_has t r (Memᴰ.head {xs = ls} e) c = rw (← e, c)
sends_has t r (Memᴰ.tail {x = x} m) c = rw (sends_has t r m c) (or-true (brings t r x))

-- where lifts fit, the marks are the held lifts that the round's choice starts from
pub flagged : {refuses : List Lift → List Refusal} (ls : List Lift) → FitBy refuses ls → (r : ℕ) (i : ℕ) → (lift_in_round r ls i).held ≡ is_held (held_of_round r ls) i
unfolding lift_in_round held_of_round
flagged ls f r i =
    both (get_or (of_round r ls) i no_lift).held _
    (λ e. among_has (all_get_d Donor (λ e. absurd (false≢true e)) (of_round r ls) (of_round_all Donor r ls donor) i e))
    ∙ sym (marks_among (of_round r ls) (λ t. le_trans (of_round_le (λ l. l.old.round) (λ l. indicator l.held) t r ls) (held_one ls d f.rounds.held t)) i (donors r ls))
  where
    d : AllWellFormed 0 ls
    d = f.well_formed.listed

    Donor : Lift → Type 0
    Donor l = l.held ≡ true → Memᴰ l.old.round (donors r ls)

    donor : All (λ l. l.new.round ≡ r → Donor l) ls
    donor l m q e =
        let p = proper 0 ls d l m in
        filter_has (λ t. sends t r ls) 1 most_rounds l.old.round
        (sends_has l.old.round r m (rw (eq-eqb l.old.round l.old.round refl, eq-eqb l.new.round r q, lt-ltb 0 l.old.measure (p.held e))))
        (somewhere p e) (omega (arith, p.old.round))
