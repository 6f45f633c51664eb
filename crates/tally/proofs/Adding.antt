-- One more lift: what it adds to the tables, and that there is room for it.
use Prim.Native.Nat.{ℕ, zero, suc, ◌+◌, ◌/◌, ◌%◌, ◌^◌, ◌≤◌, ◌<◌}
use mathlib.Core.Path.{◌≡◌, refl, sym, ap, ap₂, ◌∙◌}
use mathlib.Core.Bool.{Bool, true, false, cond, ◌&&◌, ◌||◌}
use mathlib.Core.List.{List, [], ◌∷◌, ◌++◌}
use native.Mathlib.Nat.{add-zero}
use native.Mathlib.Omega.{arith}
use lib.Bits.{bit_or, or_zero_r}
use lib.Dec.{eqb, ltb}
use lib.ListN.{get_or, set, replicate, length-replicate}
use Rattle.std.proofs.lemmas.List.{get_or-replicate}
use borrow.Author.Tests.{eq-eqb, ne_eqb, eqb-true, eqb-false}
use Rattle.probability.specs.Sum.{total_by, indicator}
use Rattle.probability.proofs.Sums.{indicator_le}
use Rattle.sheet.specs.Sheet.{most_rounds, Lift, lift_of, lifts}
use Rattle.sheet.specs.Reading.{Legible}
use Rattle.sheet.specs.Lift.{place_at, entry_of, Old, New}
use Rattle.sheet.specs.declared.Entry.{Entry}
use Rattle.tally.specs.Rounds.{lift_count, sum_of, held_count, brings, sends}
use Rattle.tally.specs.Tables.{bits, bit_of, donor_bits, old_round, new_round, Tabled, Room}
use Rattle.tally.specs.declared.OldRound.{OldRound}
use Rattle.tally.specs.declared.NewRound.{NewRound}
use Rattle.tally.specs.declared.Tallies.{Tallies}
use Rattle.tally.proofs.Bits.{bits_or, bits_ext, bits_none}
use Rattle.tally.proofs.Tables.{tabulate_at, set_tabulate, tabulated_at, tally_le, measure_lt}

-- ---- sums and donors of more lifts

pub total_by_append : {A : Type 0} (key value : A → ℕ) (r : ℕ) (xs ys : List A) → total_by key value r (xs ++ ys) ≡ total_by key value r xs + total_by key value r ys
unfolding total_by
total_by_append key value r [] ys = omega arith
total_by_append key value r (x ∷ xs) ys = omega (arith, total_by_append key value r xs ys)

one : {A : Type 0} (key value : A → ℕ) (r : ℕ) (x : A) → total_by key value r (x ∷ []) ≡ cond (eqb (key x) r) (value x) 0
unfolding total_by
one key value r x = omega arith

-- one lift more adds its value to the number of its key
more : (key value : Lift → ℕ) (r : ℕ) (ls : List Lift) (x : Lift) → total_by key value r (ls ++ x ∷ []) ≡ total_by key value r ls + cond (eqb (key x) r) (value x) 0
more key value r ls x = total_by_append key value r ls (x ∷ []) ∙ ap (λ n. total_by key value r ls + n) (one key value r x)

sends_more : (t r : ℕ) (ls : List Lift) (x : Lift) → sends t r (ls ++ x ∷ []) ≡ (sends t r ls || brings t r x)
unfolding sends
sends_more t r [] x = go (brings t r x)
  where
    go : (b : Bool) → (b || false) ≡ b
    go true = refl
    go false = refl
sends_more t r (l ∷ ls) x = go (brings t r l) (sends t r ls) (brings t r x) (sends_more t r ls x)
  where
    go : (b q s : Bool) {p : Bool} → p ≡ (q || s) → (b || p) ≡ ((b || q) || s)
    go true q s e = refl
    go false q s e = e

-- in a word of bits, of which bit t is that of old round f t
module _ (f : ℕ → ℕ) (r : ℕ) (ls : List Lift) (x : Lift) where
  donors_more : bits 64 (λ t. sends (f t) r (ls ++ x ∷ [])) ≡ bit_or (bits 64 (λ t. sends (f t) r ls)) (bits 64 (λ t. brings (f t) r x))
  donors_more = bits_ext 64 (λ t h. sends_more (f t) r ls x) ∙ sym (bits_or 64 (λ t. sends (f t) r ls) (λ t. brings (f t) r x))

  -- one lift adds no bit to another new round
  donors_elsewhere : (r ≡ x.new.round → ⊥) → bits 64 (λ t. sends (f t) r ls) ≡ bits 64 (λ t. sends (f t) r (ls ++ x ∷ []))
  donors_elsewhere h =
      sym (donors_more ∙ ap (bit_or (bits 64 (λ t. sends (f t) r ls))) (bits_none 64 (λ t l. rw (ne_eqb x.new.round r (λ e. h (sym e))) (go (eqb x.old.round (f t))))) ∙ or_zero_r (bits 64 (λ t. sends (f t) r ls)))
    where
      go : (b : Bool) → (b && (false && ltb 0 x.old.measure)) ≡ false
      go true = refl
      go false = refl

-- two tests that pass for the same numbers
same_test : (a b c d : ℕ) → (a ≡ b → c ≡ d) → (c ≡ d → a ≡ b) → eqb a b ≡ eqb c d
same_test a b c d h k = go (eqb c d) refl
  where
    go : (t : Bool) → eqb c d ≡ t → eqb a b ≡ t
    go true e = eq-eqb a b (k (eqb-true c d e))
    go false e = ne_eqb a b (λ q. eqb-false c d e (h q))

module _ (ls : List Lift) (x : Lift) where
  abbrev sent : (ℕ → ℕ) → List Lift → ℕ
  sent f us = bits 64 (λ t. sends (f t) x.new.round us)

  -- it adds its old round's bit to the word that has it
  donors_here : (f : ℕ → ℕ) → ((t : ℕ) → t < 64 → eqb x.old.round (f t) ≡ eqb (x.old.round % 64) t) → sent f (ls ++ x ∷ []) ≡ bit_or (sent f ls) (bit_of x.old.round x.old.measure)
  donors_here f h = donors_more f x.new.round ls x ∙ ap (bit_or (sent f ls)) (bits_ext 64 (λ t l. rw (h t l, eq-eqb x.new.round x.new.round refl) refl))

  -- and none to the other word
  donors_there : (f : ℕ → ℕ) → ((t : ℕ) → t < 64 → x.old.round ≡ f t → ⊥) → sent f (ls ++ x ∷ []) ≡ sent f ls
  donors_there f h =
      donors_more f x.new.round ls x ∙ ap (bit_or (sent f ls)) (bits_none 64 (λ t l. rw (ne_eqb x.old.round (f t) (h t l)) refl)) ∙ or_zero_r (sent f ls)

  -- so a word of its new round gets that bit; where its old round is beyond both words, neither does
  donors_grown : donor_bits x.new.round (ls ++ x ∷ [])
      ≡ set (donor_bits x.new.round ls) (x.old.round / 64) (bit_or (get_or (donor_bits x.new.round ls) (x.old.round / 64) 0) (bit_of x.old.round x.old.measure))
  donors_grown = go (x.old.round / 64) refl
    where
      go : (k : ℕ) → x.old.round / 64 ≡ k → donor_bits x.new.round (ls ++ x ∷ []) ≡ set (donor_bits x.new.round ls) k (bit_or (get_or (donor_bits x.new.round ls) k 0) (bit_of x.old.round x.old.measure))
      go zero e =
          ap₂ (λ a b. a ∷ b ∷ []) (donors_here (λ t. t) (λ t l. same_test x.old.round t (x.old.round % 64) t (λ q. omega arith) (λ q. omega arith))) (donors_there (λ t. 64 + t) (λ t l q. omega arith))
      go (suc zero) e =
          ap₂ (λ a b. a ∷ b ∷ []) (donors_there (λ t. t) (λ t l q. omega arith)) (donors_here (λ t. 64 + t) (λ t l. same_test x.old.round (64 + t) (x.old.round % 64) t (λ q. omega arith) (λ q. omega arith)))
      go (suc (suc k)) e = ap₂ (λ a b. a ∷ b ∷ []) (donors_there (λ t. t) (λ t l q. omega arith)) (donors_there (λ t. 64 + t) (λ t l q. omega arith))

-- ---- the tables of more lifts

module _ (ls : List Lift) (x : Lift) where
  -- another round stays as it is
  old_other : (r : ℕ) → (r ≡ x.old.round → ⊥) → old_round ls r ≡ old_round (ls ++ x ∷ []) r
  old_other r h =
      rw (
        more (λ l. l.old.round) (λ _. 1) r ls x,
        more (λ l. l.old.round) (λ l. indicator l.held) r ls x,
        more (λ l. l.old.round) (λ l. l.old.measure) r ls x,
        ne_eqb x.old.round r (λ e. h (sym e)),
      ) (simp add-zero)

  new_other : (r : ℕ) → (r ≡ x.new.round → ⊥) → new_round ls r ≡ new_round (ls ++ x ∷ []) r
  new_other r h =
      rw (
        more (λ l. l.new.round) (λ _. 1) r ls x,
        more (λ l. l.new.round) (λ l. (place_at New l).measure) r ls x,
        donors_elsewhere (λ t. t) r ls x h,
        donors_elsewhere (λ t. 64 + t) r ls x h,
        ne_eqb x.new.round r (λ e. h (sym e)),
      ) (simp add-zero)

  -- its rounds grow by it
  pub old_grown : old_round (ls ++ x ∷ []) x.old.round
      ≡ record { lifts = lift_count Old x.old.round ls + 1; held = held_count x.old.round ls + indicator x.held; sum = sum_of Old x.old.round ls + x.old.measure }
  old_grown =
      let r : ℕ = x.old.round in
      rw (
        more (λ l. l.old.round) (λ _. 1) r ls x,
        more (λ l. l.old.round) (λ l. indicator l.held) r ls x,
        more (λ l. l.old.round) (λ l. l.old.measure) r ls x,
        eq-eqb r r refl,
      ) refl

  pub new_grown : new_round (ls ++ x ∷ []) x.new.round
      ≡ record {
        lifts = lift_count New x.new.round ls + 1;
        sum = sum_of New x.new.round ls + (place_at New x).measure;
        donors = set (donor_bits x.new.round ls) (x.old.round / 64) (bit_or (get_or (donor_bits x.new.round ls) (x.old.round / 64) 0) (bit_of x.old.round x.old.measure));
      }
  new_grown =
      let r : ℕ = x.new.round in
      rw (more (λ l. l.new.round) (λ _. 1) r ls x, more (λ l. l.new.round) (λ l. (place_at New l).measure) r ls x, eq-eqb r r refl)
      (ap (λ d. record { lifts = lift_count New r ls + 1; sum = sum_of New r ls + (place_at New x).measure; donors = d }) (donors_grown ls x))

-- the tables in which both its rounds grow are those of the lifts and it
pub tabled_more : (ls : List Lift) (x : Lift) {t : Tallies} {l : Entry} (o : OldRound) (n : NewRound) {b : ℕ} → Tabled ls t → l ≡ entry_of x → l.from ≤ most_rounds → l.to ≤ most_rounds
    → b ≡ bit_of l.from l.old
    → Tabled (ls ++ x ∷ [])
    (record {
      old = set t.old l.from
          (record {
            lifts = (get_or t.old l.from o).lifts + 1;
            held = (get_or t.old l.from o).held + indicator l.held;
            sum = (get_or t.old l.from o).sum + l.old;
          });
      new = set t.new l.to
          (record {
            lifts = (get_or t.new l.to n).lifts + 1;
            sum = (get_or t.new l.to n).sum + l.new;
            donors = set (get_or t.new l.to n).donors (l.from / 64) (bit_or (get_or (get_or t.new l.to n).donors (l.from / 64) 0) b);
          });
    })
tabled_more ls x o n t q hf ht e =
    let hf' : x.old.round < most_rounds + 1 = omega (arith, ap (λ x. x.from) q) in
    let ht' : x.new.round < most_rounds + 1 = omega (arith, ap (λ x. x.to) q) in
    rw (e, q, t.old, t.new, tabulate_at o (most_rounds + 1) (old_round ls) x.old.round hf', tabulate_at n (most_rounds + 1) (new_round ls) x.new.round ht')
    (record {
      old = set_tabulate (old_round ls) (old_round (ls ++ x ∷ [])) hf' (sym (old_grown ls x)) (old_other ls x);
      new = set_tabulate (new_round ls) (new_round (ls ++ x ∷ [])) ht' (sym (new_grown ls x)) (new_other ls x);
    })

-- of no lifts all is 0
abbrev pub old_none : OldRound
old_none = record { lifts = 0; held = 0; sum = 0 }

abbrev pub new_none : NewRound
new_none = record { lifts = 0; sum = 0; donors = 0 ∷ 0 ∷ [] }

abbrev pub no_tallies : Tallies
no_tallies = record { old = replicate (most_rounds + 1) old_none; new = replicate (most_rounds + 1) new_none }

pub tabled_none : Tabled [] no_tallies
unfolding total_by sends
tabled_none =
    let z : 0 ≡ bits 64 (λ t. false) = sym (bits_none 64 (λ t h. refl)) in
    record {
      old = tabulated_at old_none (old_round []) (length-replicate (most_rounds + 1) old_none) (λ k h. get_or-replicate (most_rounds + 1) k old_none old_none h);
      new = tabulated_at new_none (new_round []) (length-replicate (most_rounds + 1) new_none)
          (λ k h. get_or-replicate (most_rounds + 1) k new_none new_none h ∙ ap (λ d. record { lifts = 0; sum = 0; donors = d ∷ d ∷ [] }) z);
    }

-- ---- room

small_room : {ws : List ℕ} (key value : Lift → ℕ) → ((us : List ℕ) → value (lift_of us) < 2 ^ 21) → Legible ws → (ls rest : List Lift) (x : Lift) → ls ++ x ∷ rest ≡ lifts ws → total_by key value (key x) ls + value x < 2 ^ 64
small_room {ws} key value small l ls rest x e =
    omega (
      arith,
      tally_le key value small (key x) ws,
      ap (total_by key value (key x)) e,
      total_by_append key value (key x) ls (x ∷ rest),
      total_by_append key value (key x) (x ∷ []) rest,
      one key value (key x) x,
      l.short,
      ap (λ b. cond b (value x) 0) (eq-eqb (key x) (key x) refl),
    )

pub room : {ws : List ℕ} {t : Tallies} → Legible ws → (ls rest : List Lift) (x : Lift) → ls ++ x ∷ rest ≡ lifts ws → Tabled ls t → x.old.round ≤ most_rounds → x.new.round ≤ most_rounds
    → (o : OldRound) (n : NewRound) → Room (get_or t.old x.old.round o) (get_or t.new x.new.round n) (entry_of x)
room {ws} {t} l ls rest x e d hf ht o n =
    rw (d.old, d.new, tabulate_at o (most_rounds + 1) (old_round ls) x.old.round (omega arith), tabulate_at n (most_rounds + 1) (new_round ls) x.new.round (omega arith))
    (record {
      old_lifts = small_room (λ l. l.old.round) (λ _. 1) (λ us. omega arith) l ls rest x e;
      held = small_room (λ l. l.old.round) (λ l. indicator l.held) (λ us. omega (arith, indicator_le (lift_of us).held)) l ls rest x e;
      old_sum = small_room (λ l. l.old.round) (λ l. l.old.measure) (measure_lt Old) l ls rest x e;
      new_lifts = small_room (λ l. l.new.round) (λ _. 1) (λ us. omega arith) l ls rest x e;
      new_sum = small_room (λ l. l.new.round) (λ l. (place_at New l).measure) (measure_lt New) l ls rest x e;
    })
