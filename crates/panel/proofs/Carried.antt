-- The choices kept by round are next quarter's held marks: a lift of round r is chosen exactly if its number is the one kept for r.
use Prim.Native.Nat.{ℕ, suc, ◌+◌, ◌<◌}
use mathlib.Core.Path.{◌≡◌, refl, sym, ap, ◌∙◌}
use mathlib.Core.Bool.{Bool, true, false, ◌||◌, or-false}
use mathlib.Core.List.Memᴰ
use mathlib.Core.List.{List, ◌∷◌, Memᴰ}
use mathlib.Core.Logic.{◌⊎◌, inl, inr}
use native.Mathlib.Omega.{arith}
use lib.Dec.{eqb, ltb}
use lib.ListN.{length, get_or, set, length-set}
use Rattle.std.specs.Prelude.{Option, None, Some}
use borrow.Author.Tests.{eqb-true, eqb-false, eq-eqb, ne_eqb, lt-ltb}
use Rattle.probability.specs.Among.{among}
use Rattle.probability.specs.Sum.{total_by}
use Rattle.probability.proofs.Lists.{All}
use Rattle.sheet.specs.Sheet.{most_rounds, Lift}
use Rattle.tally.specs.Rounds.{lift_count, in_use}
use Rattle.tally.specs.Law.{Fit}
use Rattle.sheet.specs.Lift.{New}
use Rattle.tally.proofs.Ranges.{filter_has}
use Rattle.selection.specs.declared.Pick.{Pick}
use Rattle.selection.specs.Choice.{lift_in_round, fourth, Choice, choice_of, pick_of, by_round, none_chosen}
use Rattle.selection.proofs.Held.{proper}
use Rattle.selection.proofs.Naming.{same}
use Rattle.selection.proofs.Steps.{Steps, none, some}
use Rattle.selection.proofs.Chosen.{Measured, run_measured}
use Rattle.carry.specs.Next.{carried_on, is_chosen, next_lifts, has_number, in_table}
use Rattle.carry.proofs.Rounds.{carried_on_ext}
use Rattle.carry.proofs.Marks.{Used, all_used}
use Rattle.selection.proofs.Choices.{Rises}
use Rattle.selection.proofs.Tables.{by_round_first}

-- a lift's new round is named
named_some : {l : Lift} {ls : List Lift} → Memᴰ l ls → 0 < lift_count New l.new.round ls
unfolding total_by
named_some {l} (Memᴰ.head {x = x} e) = rw (eq-eqb x.new.round l.new.round (ap (λ m. m.new.round) (sym e))) (omega arith)
named_some (Memᴰ.tail i) = omega (arith, named_some i)

module _ {ls : List Lift} (f : Fit ls) {l : Lift} (i : Memᴰ l ls) where
  -- another round's choice is another lift
  other : {r : ℕ} {a : Lift} → Measured ls r a → (r ≡ l.new.round → ⊥) → eqb a.number l.number ≡ false
  other {r} {a} m d = ne_eqb a.number l.number (λ e. d (sym m.round ∙ ap (λ x. x.new.round) (same m.inside 0 f.well_formed.listed l i e)))

  -- no later round chooses it
  unchosen : {ws : List ℕ} {from next : ℕ} {rs : List ℕ} {cs : List Choice} → Steps fourth ls ws from rs cs next → All (Used ls) rs → (k : ℕ) → Rises k cs
      → l.new.round < k → is_chosen cs l ≡ false
  unfolding among
  unchosen none u k d h = refl
  unchosen {ws} {from} (some {r = r} q rest) u k d h =
      let used = u r (Memᴰ.head refl) in
      rw (other (run_measured f used.low used.high used.some ws from q) (λ e. omega (arith, d.0)))
      (unchosen rest (λ t m. u t (Memᴰ.tail m)) (suc r) d.2 (omega (arith, d.0)))

  -- the table has its round's choice
  table_has : {ws : List ℕ} {from next : ℕ} {rs : List ℕ} {cs : List Choice} → Steps fourth ls ws from rs cs next → All (Used ls) rs → (k : ℕ) → Rises k cs
      → Memᴰ l.new.round rs → (xs : List (Option Pick)) → length xs ≡ most_rounds + 1 → in_table (by_round cs xs) l ≡ is_chosen cs l
  unfolding among by_round
  table_has none u k d m xs e = absurd (Memᴰ.not-nil m)
  table_has {ws} {from} (some {r = r} {rs = rs} {cs = cs} {vs = vs} {s = s} q rest) u k d m xs e =
      go (eqb r l.new.round) refl (Memᴰ.cases_cons m) (λ n. table_has rest v (suc r) d.2 n (set xs r (Some (pick_of c))) (length-set xs r (Some (pick_of c)) ∙ e))
    where
      c : Choice
      c = choice_of r ls vs s

      v : All (Used ls) rs
      v t n = u t (Memᴰ.tail n)

      mine : Measured ls r (lift_in_round r ls s.place)
      mine = let used = u r (Memᴰ.head refl) in run_measured f used.low used.high used.some ws from q

      go : (x : Bool) → eqb r l.new.round ≡ x → (l.new.round ≡ r) ⊎ Memᴰ l.new.round rs
          → (Memᴰ l.new.round rs → in_table (by_round cs (set xs r (Some (pick_of c)))) l ≡ is_chosen cs l)
          → in_table (by_round cs (set xs r (Some (pick_of c)))) l ≡ (eqb c.number l.number || is_chosen cs l)
      go true h y ih =
          let z : r ≡ l.new.round = eqb-true r l.new.round h in
          let first : get_or (by_round (c ∷ cs) xs) l.new.round None ≡ Some (pick_of c) = rw (← z) (by_round_first c cs d.2 xs (omega (arith, d.1.upto))) in
          ap (λ p. has_number p l.number) first
          ∙ sym (ap (λ b. eqb c.number l.number || b) (unchosen rest v (suc r) d.2 (omega arith)) ∙ or-false (eqb c.number l.number))
      go false h (inl y) ih = absurd (eqb-false r l.new.round h (sym y))
      go false h (inr n) ih = rw (other mine (eqb-false r l.new.round h)) (ih n)

-- so what is written from the table is next quarter's lifts
pub table_next : {ls : List Lift} → Fit ls → {ws : List ℕ} {start next : ℕ} {cs : List Choice} → Steps fourth ls ws start (in_use New ls) cs next → Rises 1 cs
    → carried_on (in_table (by_round cs none_chosen)) ls ≡ next_lifts cs ls
table_next {ls} f k d =
    carried_on_ext ls
    (λ l i h.
    let p = proper 0 ls f.well_formed.listed l i in
    let m = filter_has (λ r. ltb 0 (lift_count New r ls)) 1 most_rounds l.new.round (lt-ltb 0 (lift_count New l.new.round ls) (named_some i)) h (omega (arith, p.new.round)) in
    table_has f i k (all_used ls) 1 d m none_chosen refl)
