-- The choices as held marks: they are an initial selection of the lifts carried on, which so marked fit.
use Prim.Native.Nat.{ℕ, ◌≤◌, ◌<◌}
use mathlib.Core.Path.{◌≡◌, refl, ap, ap₂, subst, ◌∙◌}
use mathlib.Core.Bool.{Bool, true, false, cond, false≢true}
use mathlib.Core.List.{List, [], ◌∷◌, map, Memᴰ}
use native.Mathlib.Omega.{arith}
use lib.Dec.{eqb, ltb}
use lib.ListN.{length-map}
use borrow.Author.Tests.{ne_eqb, ltb-true}
use Rattle.probability.specs.Among.{among}
use Rattle.probability.proofs.Lists.{All}
use Rattle.sheet.specs.Sheet.{most_rounds, Lift}
use Rattle.tally.specs.Rounds.{lift_count, in_use}
use Rattle.tally.specs.Law.{Fit}
use Rattle.sheet.specs.Lift.{Old, New}
use Rattle.tally.specs.Verdict.{crowded}
use Rattle.tally.proofs.Sending.{too_many_donors_count}
use Rattle.tally.proofs.Verdicts.{donors_fit}
use Rattle.tally.proofs.Ranges.{filter_in}
use Rattle.selection.specs.Choice.{fourth, Choice, lift_in_round}
use Rattle.selection.specs.Initial.{marked}
use Rattle.selection.proofs.Naming.{Selected, none as selected_none, some as selected_some}
use Rattle.selection.proofs.MarkedFits.{Unmarked, fit_marked}
use Rattle.selection.proofs.Steps.{Steps, none, some}
use Rattle.selection.proofs.Chosen.{run_measured}
use Rattle.carry.specs.Next.{remaining, carried, carried_on, is_chosen, next_lifts}
use Rattle.carry.proofs.Rounds.{named_next, sum_of_next, in_use_next, few_donors, listed_next, remaining_few}

-- ---- the lifts carried on, none of them held

abbrev none_held : Lift → Bool
none_held l = false

unmarked : {ls : List Lift} → Fit ls → Unmarked (carried_on none_held ls)
unmarked {ls} f =
    record {
      well_formed = record {
        listed = listed_next none_held 0 ls (λ l i e. absurd (false≢true e)) f.well_formed.listed;
        few = rw (length-map (remaining ls) (carried none_held)) (omega (arith, remaining_few ls, f.well_formed.few));
      };
      old = λ r l h. rw (sum_of_next none_held Old r l ls) (f.rounds.new r l h);
      new = λ r l h. rw (sum_of_next none_held New r l ls) (f.rounds.new r l h);
      measured = λ r l h. rw (named_next none_held New r l ls, sum_of_next none_held New r l ls) (f.rounds.measured r l h);
    }

-- a lift of a new round is carried on
pub carried_in : (held : Lift → Bool) {a : Lift} {ls : List Lift} → Memᴰ a ls → 1 ≤ a.new.round → Memᴰ (carried held a) (carried_on held ls)
unfolding remaining
carried_in held {a} (Memᴰ.head {x = x} {xs = ls} e) h =
    let z : eqb x.new.round 0 ≡ false = rw (← e) (ne_eqb a.new.round 0 (λ q. omega arith)) in
    rw z (Memᴰ.head (ap (carried held) e))
carried_in held {a} (Memᴰ.tail {x = x} {xs = ls} i) h = go (eqb x.new.round 0) (carried_in held i h)
  where
    go : (t : Bool) → Memᴰ (carried held a) (carried_on held ls) → Memᴰ (carried held a) (map (carried held) (cond t (remaining ls) (x ∷ remaining ls)))
    go true m = m
    go false m = Memᴰ.tail m

-- ---- the choices of some rounds

-- a round in use
pub record Used (ls : List Lift) (r : ℕ) : Type 0 where
  pub low : 1 ≤ r
  pub high : r ≤ most_rounds
  pub some : 0 < lift_count New r ls

pub all_used : (ls : List Lift) → All (Used ls) (in_use New ls)
all_used ls r m =
    let h = filter_in (λ t. ltb 0 (lift_count New t ls)) 1 most_rounds r m in
    record { low = h.1; high = omega (arith, h.2); some = ltb-true 0 (lift_count New r ls) h.0 }

-- the lifts chosen, as a selection: it has the numbers of the choices
record Marks (ls : List Lift) (rs : List ℕ) (cs : List Choice) : Type 0 where
  lifts : List Lift
  selected : Selected (carried_on none_held ls) rs lifts
  same : map (λ l. l.number) lifts ≡ map (λ c. c.number) cs

marks : {ls : List Lift} → Fit ls → {ws : List ℕ} {from next : ℕ} {rs : List ℕ} {cs : List Choice} → All (Used ls) rs → Steps fourth ls ws from rs cs next → Marks ls rs cs
marks f u none = record { lifts = []; selected = selected_none; same = refl }
marks {ls} f {ws} {from} u (some {r = r} {s = s} q k) =
    let used = u r (Memᴰ.head refl) in
    let a = run_measured f used.low used.high used.some ws from q in
    let m = marks f (λ t i. u t (Memᴰ.tail i)) k in
    let x : Lift = lift_in_round r ls s.place in
    record {
      lifts = carried none_held x ∷ m.lifts;
      selected = selected_some (carried_in none_held a.inside (omega (arith, a.round, used.low))) a.round a.some m.selected;
      same = ap (λ ns. x.number ∷ ns) m.same;
    }

-- marking them is marking the choices
marked_next : (m : List Lift) (cs : List Choice) → map (λ l. l.number) m ≡ map (λ c. c.number) cs → (us : List Lift)
    → marked m (map (carried none_held) us) ≡ map (carried (is_chosen cs)) us
unfolding marked
marked_next m cs e [] = refl
marked_next m cs e (u ∷ us) = ap₂ (λ h ls. carried (λ _. h) u ∷ ls) (ap (among u.number) e) (marked_next m cs e us)

-- next quarter's lifts fit
pub fit_next : {ls : List Lift} → Fit ls → {ws : List ℕ} {from next : ℕ} {cs : List Choice} → Steps fourth ls ws from (in_use New ls) cs next → Fit (next_lifts cs ls)
fit_next {ls} f {cs = cs} k =
    let m = marks f (all_used ls) k in
    let s : Selected (carried_on none_held ls) (in_use Old (carried_on none_held ls)) m.lifts = rw (in_use_next none_held Old ls) m.selected in
    let next = marked_next m.lifts cs m.same (remaining ls) in
    subst Fit next
    (fit_marked (unmarked f) s (ap crowded next ∙ donors_fit (next_lifts cs ls) (λ r l h. too_many_donors_count (next_lifts cs ls) r ∙ few_donors (is_chosen cs) r l h ls)))
