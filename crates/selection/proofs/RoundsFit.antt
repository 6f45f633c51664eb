-- What lifts that fit give of each of their new rounds: the sums of the round and of its donors, and where held lifts stand. By induction along the donors.
use Prim.Native.Nat.{ℕ, suc, ◌≤◌, ◌<◌}
use mathlib.Core.Path.{◌≡◌, refl, sym, ap, ap₂, ◌∙◌}
use mathlib.Core.Bool.{Bool, true, false, cond, ◌&&◌, true≢false}
use mathlib.Core.List.{List, [], ◌∷◌, map}
use native.Mathlib.Omega.{arith}
use lib.Dec.{eqb, ltb, leb}
use lib.ListN.{length, length-map}
use borrow.Author.Tests.{eqb-true, eqb-false, eq-eqb, ne_eqb, lt-ltb, ltb-true, ltb-false, leb-false}
use Rattle.probability.specs.Initial.{Initial, here, elsewhere}
use Rattle.round.specs.Round.{S, IsDonor, whole_sums, AreDonors, WellPosed as RoundFitting}
use Rattle.round.specs.Rows.{Inside, Stands, Bounded, SumsBounded}
use Rattle.sheet.specs.Sheet.{most_rounds, largest_sum, Lift}
use Rattle.tally.specs.Law.{Fit}
use Rattle.sheet.specs.Lift.{Old, New}
use Rattle.tally.proofs.Sending.{at_most_two}
use Rattle.tally.proofs.Verdicts.{few_donors}
use Rattle.tally.proofs.Ranges.{Rising, filter_rise}
use Rattle.tally.specs.Rounds.{lift_count, sum_of, sends, donors, of_round, number_from, donor_number, further, held_at}
use Rattle.selection.specs.Choice.{with_sums, donors_of, in_round, lifts_of, held_of_round}
use Rattle.selection.proofs.Sums.{S_sum, U_sum, of_round_le, sends_some}

-- ---- the numbers of donors

-- below k there is no number but 0
number_below : (k : ℕ) (ds : List ℕ) (t j : ℕ) → 0 < j → j < k → eqb (number_from k ds t) j ≡ false
number_below k [] t j p l = ne_eqb 0 j (omega arith)
number_below k (d ∷ ds) t j p l = go (eqb d t) (number_below (suc k) ds t j p (omega arith))
  where
    go : (x : Bool) → eqb (number_from (suc k) ds t) j ≡ false → eqb (cond x k (number_from (suc k) ds t)) j ≡ false
    go true h = ne_eqb k j (omega arith)
    go false h = h

-- the key of each of some old rounds is its own: k for the first, k + 1 for the next
abbrev pub Keys : (ℕ → ℕ) → ℕ → List ℕ → Type 0
Keys key k [] = Unit {0}
Keys key k (d ∷ ds) = ((t : ℕ) → eqb (key t) k ≡ eqb t d) × Keys key (suc k) ds

-- rounds that rise have their numbers as keys, and keys below k can be given to those before them
keys_from : (P : ℕ → Type 0) (key : ℕ → ℕ) (k a : ℕ) (ds : List ℕ) → 0 < k → Rising P a ds → ((t : ℕ) → t < a → key t < k)
    → ((t : ℕ) → a ≤ t → key t ≡ number_from k ds t) → Keys key k ds
keys_from P key k a [] p s low high = tt
keys_from P key k a (d ∷ ds) p s low high = (
  λ t. own t (ltb t a) refl,
  keys_from P key (suc k) (suc d) ds (omega arith) s.2 (λ t l. less t l (ltb t a) refl)
      (λ t l. high t (omega (arith, s.0)) ∙ ap (λ x. cond x k (number_from (suc k) ds t)) (ne_eqb d t (λ e. omega arith))),
)
  where
    own : (t : ℕ) (x : Bool) → ltb t a ≡ x → eqb (key t) k ≡ eqb t d
    own t true e =
        let l = ltb-true t a e in
        ne_eqb (key t) k (λ z. omega (arith, low t l)) ∙ sym (ne_eqb t d (λ z. omega (arith, s.0)))
    own t false e = rw (high t (ltb-false t a e)) (go (eqb d t) refl)
      where
        go : (x : Bool) → eqb d t ≡ x → eqb (cond x k (number_from (suc k) ds t)) k ≡ eqb t d
        go true z = eq-eqb k k refl ∙ sym (eq-eqb t d (sym (eqb-true d t z)))
        go false z = number_below (suc k) ds t k p (omega arith) ∙ sym (ne_eqb t d (λ y. eqb-false d t z (sym y)))

    less : (t : ℕ) → t < suc d → (x : Bool) → ltb t a ≡ x → key t < suc k
    less t l true e = omega (arith, low t (ltb-true t a e))
    less t l false e = rw (high t (ltb-false t a e)) (go (eqb d t) refl)
      where
        unnumbered : (k b : ℕ) (es : List ℕ) → Rising P b es → t < b → number_from k es t ≡ 0
        unnumbered k b [] r h = refl
        unnumbered k b (c ∷ es) r h = rw (ne_eqb c t (λ z. omega (arith, r.0))) (unnumbered (suc k) (suc c) es r.2 (omega (arith, r.0)))

        go : (x : Bool) → eqb d t ≡ x → cond x k (number_from (suc k) ds t) < suc k
        go true z = omega arith
        go false z = rw (unnumbered (suc k) (suc d) ds s.2 l) (omega arith)

-- ---- held lifts

sits : (t : ℕ) (us : List Lift) → Inside (length us) (held_at t us)
unfolding held_at
sits t [] = tt
sits t (u ∷ us) = go (u.held && eqb u.old.round t) (held_at t us) (sits t us)
  where
    go : (x : Bool) (y : Initial) → Inside (length us) y → Inside (suc (length us)) (cond x (here 0) (further y))
    go true y k = omega arith
    go false (here i) k = omega arith
    go false elsewhere k = tt

-- a donor is an old round that sends measure
pub record Donor (r : ℕ) (ls : List Lift) (t : ℕ) : Type 0 where
  pub sends : sends t r ls ≡ true
  pub low : 1 ≤ t
  pub high : t ≤ most_rounds

-- the donors rise, and their numbers are their own
pub donors_rise : (r : ℕ) (ls : List Lift) → Rising (Donor r ls) 1 (donors r ls)
donors_rise r ls = filter_rise (Donor r ls) (λ t. sends t r ls) 1 most_rounds (λ t l h e. record { sends = e; low = l; high = omega arith })

pub donor_keys : (r : ℕ) (ls : List Lift) → Keys (donor_number (donors r ls)) 1 (donors r ls)
donor_keys r ls =
    keys_from (Donor r ls) (donor_number (donors r ls)) 1 0 (donors r ls) (omega arith) (lower (donors r ls) (donors_rise r ls)) (λ t l. absurd (omega arith)) (λ t l. refl)
  where
    lower : (ds : List ℕ) → Rising (Donor r ls) 1 ds → Rising (Donor r ls) 0 ds
    lower [] s = tt
    lower (d ∷ ds) s = (omega arith, s.1, s.2)

-- the whole old sum of an old round
abbrev pub whole_of : List Lift → ℕ → ℕ
whole_of ls t = sum_of Old t ls

-- at most two sums are those of their donors
whole_sums_lem : (Ts : List ℕ) → leb 3 (length Ts) ≡ false → whole_sums (with_sums Ts) ≡ Ts
whole_sums_lem [] h = refl
whole_sums_lem (T ∷ []) h = refl
whole_sums_lem (T₁ ∷ T₂ ∷ []) h = refl
whole_sums_lem (T₁ ∷ T₂ ∷ T₃ ∷ Ts) h = absurd (omega (arith, leb-false 3 (length (T₁ ∷ T₂ ∷ T₃ ∷ Ts)) h))

module _ {ls : List Lift} (f : Fit ls) {r : ℕ} (low : 1 ≤ r) (high : r ≤ most_rounds) where
  pub donors_few : length (donors r ls) ≤ 2
  donors_few = omega (arith, leb-false 3 (length (donors r ls)) (at_most_two ls r (few_donors f r low high)))

  pub donors_sums : whole_sums (donors_of r ls) ≡ map (whole_of ls) (donors r ls)
  unfolding donors_of
  donors_sums = whole_sums_lem (map (whole_of ls) (donors r ls)) (rw (length-map (donors r ls) (whole_of ls)) (at_most_two ls r (few_donors f r low high)))

  sum_new : sum_of New r ls ≤ largest_sum
  sum_new = ltb-false largest_sum (sum_of New r ls) (f.rounds.new r low high)

  sum_old : (d : ℕ) → 1 ≤ d → d ≤ most_rounds → sum_of Old d ls ≤ largest_sum
  sum_old d l h = ltb-false largest_sum (sum_of Old d ls) (f.rounds.old d l h)

  -- what a donor sends is a part of its old sum
  sent : (number : ℕ → ℕ) (k d : ℕ) → ((t : ℕ) → eqb (number t) k ≡ eqb t d) → sends d r ls ≡ true → IsDonor k (sum_of Old d ls) (map (in_round number) (of_round r ls))
  sent number k d h s =
      let e = U_sum number k d h (of_round r ls) in
      record { some = rw e (sends_some d r ls s); part = rw e (of_round_le (λ l. l.old.round) (λ l. l.old.measure) d r ls) }

  donated : (key : ℕ → ℕ) (k a : ℕ) (ds : List ℕ) → Keys key k ds → Rising (Donor r ls) a ds → AreDonors k (map (whole_of ls) ds) (map (in_round key) (of_round r ls))
  donated key k a [] q s = tt
  donated key k a (d ∷ ds) q s = (sent key k d q.0 s.1.sends, donated key (suc k) (suc d) ds q.1 s.2)

  limited : (a : ℕ) (ds : List ℕ) → Rising (Donor r ls) a ds → SumsBounded (map (whole_of ls) ds)
  limited a [] s = tt
  limited a (d ∷ ds) s = (sum_old d s.1.low s.1.high, limited (suc d) ds s.2)

  -- the round's own sum
  pub S_round : S (lifts_of r ls) ≡ sum_of New r ls
  unfolding lifts_of
  S_round = S_sum (donor_number (donors r ls)) r ls

  pub positive : 0 < lift_count New r ls → 0 < sum_of New r ls
  positive n = go (eqb (sum_of New r ls) 0) refl
    where
      go : (t : Bool) → eqb (sum_of New r ls) 0 ≡ t → 0 < sum_of New r ls
      go true e = absurd (true≢false (sym (ap₂ ◌&&◌ (lt-ltb 0 (lift_count New r ls) n) e) ∙ f.rounds.measured r low high))
      go false e = omega (arith, eqb-false (sum_of New r ls) 0 e)

  pub round_fits : 0 < lift_count New r ls → RoundFitting (donors_of r ls) (lifts_of r ls)
  unfolding lifts_of
  round_fits n =
      record {
        positive = rw S_round (positive n);
        donate = rw donors_sums (donated (donor_number (donors r ls)) 1 1 (donors r ls) (donor_keys r ls) (donors_rise r ls));
      }

  pub round_bounded : Bounded (donors_of r ls) (lifts_of r ls)
  round_bounded = record { new = rw S_round sum_new; old = rw donors_sums (limited 1 (donors r ls) (donors_rise r ls)) }

  stands_among : (ds : List ℕ) (us : List Lift) → Stands (map (whole_of ls) ds) (map (λ t. held_at t us) ds) (length us)
  stands_among [] us = tt
  stands_among (d ∷ ds) us = (sits d us, stands_among ds us)

  pub round_stands : Stands (whole_sums (donors_of r ls)) (held_of_round r ls) (length (lifts_of r ls))
  unfolding held_of_round lifts_of
  round_stands = rw (donors_sums, length-map (of_round r ls) (in_round (donor_number (donors r ls)))) (stands_among (donors r ls) (of_round r ls))
