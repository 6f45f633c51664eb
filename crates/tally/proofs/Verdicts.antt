-- The answer to a sheet: the tests of the code on tables are the document's on lifts, and one law for each way out.
use Prim.Native.Nat.{ℕ, zero, suc, ◌+◌, ◌≤◌}
use mathlib.Core.Path.{◌≡◌, refl, sym, ap, ap₂, subst, ◌∙◌}
use mathlib.Core.Bool.{Bool, true, false, cond, ◌&&◌}
use mathlib.Core.List.{List, [], ◌∷◌, map}
use Rattle.std.specs.Prelude.{Option, Some, None}
use native.Mathlib.Omega.{arith}
use lib.Dec.{leb, ltb}
use lib.ListN.{length, get_or, drop}
use Rattle.std.specs.Prelude.{count_by}
use Rattle.std.proofs.lemmas.List.Sums.{sum_by-cons}
use Rattle.probability.proofs.Sums.{over_ext}
use Rattle.probability.specs.Sum.{over, indicator, count}
use Rattle.sheet.specs.Sheet.{most_rounds, longest, Lift, lifts, sheet_of}
use Rattle.reply.specs.Reply.{Numbered, numbered}
use Rattle.sheet.specs.Reading.{Reading, faulty, sound, of_words, Legible}
use Rattle.tally.specs.Rounds.{rounds, lift_count, in_use}
use Rattle.tally.specs.Verdict.{Verdict, refused, fits, not_one_held, oversize, zero_sum, too_many_donors, first_round, first_refusal, crowded, nothing_more, of_rounds, unless_faulty, verdict_by, verdict}
use Rattle.reply.specs.Refusal.{refusal_of}
use Rattle.tally.specs.Tables.{tabulate, table, donor_count, old_round, new_round, Tabled, found_first}
use Rattle.tally.specs.Law.{Nowhere, FitBy, Fit, FittingBy, Fitting, DecidedTheorem}
use Rattle.sheet.specs.Lift.{Old, New}
use Rattle.tally.specs.declared.OldRound.{OldRound}
use Rattle.tally.specs.declared.NewRound.{NewRound}
use Rattle.tally.specs.declared.Tallies.{Tallies}
use Rattle.tally.proofs.Adding.{old_none, new_none}
use Rattle.reply.specs.declared.Refusal.{Refusal}
use Rattle.reply.specs.declared.Refusal.TheVariants.{TooManyDonors}
use Rattle.tally.proofs.Tables.{tabulate_at}
use Rattle.tally.proofs.Sending.{donors_count}
use Rattle.tally.proofs.Numbers.{Above, above}
use Rattle.sheet.proofs.Trips.{read_theorem, written_theorem}
use Rattle.sheet.proofs.Legibility.{legible_words, words_legible}
use Rattle.tally.proofs.Ranges.{filter_ext, filter_count, filter_none, none_filtered}

-- ---- the tests on tables

-- the rounds whose entries pass a test
pub tested : {A : Type 0} (test : A → Bool) (f : ℕ → A) (d : A) {a : List A} → a ≡ table f → rounds (λ r. test (get_or a r d)) ≡ rounds (λ r. test (f r))
tested test f d e = filter_ext 1 most_rounds (λ r l h. ap test (ap (λ x. get_or x r d) e ∙ tabulate_at d (most_rounds + 1) f r h))

-- a search of the tables finds the first round that the lifts make pass
pub old_tested : {ls : List Lift} {t : Tallies} (test : OldRound → Bool) → Tabled ls t → found_first (rounds (λ r. test (get_or t.old r old_none))) ≡ found_first (rounds (λ r. test (old_round ls r)))
old_tested {ls} test d = ap found_first (tested test (old_round ls) old_none d.old)

pub new_tested : {ls : List Lift} {t : Tallies} (test : NewRound → Bool) → Tabled ls t → found_first (rounds (λ r. test (get_or t.new r new_none))) ≡ found_first (rounds (λ r. test (new_round ls r)))
new_tested {ls} test d = ap found_first (tested test (new_round ls) new_none d.new)

counted : {A : Type 0} (test : A → Bool) (n : ℕ) (f : ℕ → A) → count_by test (tabulate n f) ≡ count n (λ i. test (f i))
unfolding tabulate over
counted test zero f = refl
counted test (suc n) f = sum_by-cons (λ x. cond (test x) 1 0) (f 0) (tabulate n (λ i. f (suc i))) ∙ ap₂ ◌+◌ (go (test (f 0))) (counted test n (λ i. f (suc i)))
  where
    go : (b : Bool) → cond b 1 0 ≡ indicator b
    go true = refl
    go false = refl

-- how many are in use
pub in_use_lem : (ls : List Lift) {a : List NewRound} {n : ℕ} → a ≡ table (new_round ls) → n ≡ count_by (λ x. ltb 0 x.lifts) (drop 1 a) → n ≡ length (in_use New ls)
unfolding tabulate
in_use_lem ls ea e =
    e ∙ ap (λ x. count_by (λ x. ltb 0 x.lifts) (drop 1 x)) ea ∙ counted (λ x. ltb 0 x.lifts) most_rounds (λ i. new_round ls (suc i))
    ∙ over_ext ◌+◌ 0 most_rounds (λ i _. let q : suc i ≡ 1 + i = omega arith in ap (λ r. indicator (ltb 0 (lift_count New r ls))) q)
    ∙ sym (filter_count (λ r. ltb 0 (lift_count New r ls)) 1 most_rounds)

-- a new round that is in use, with three donors or more
abbrev pub many : NewRound → Bool
many n = ltb 0 n.lifts && leb 3 (donor_count n.donors)

-- the rounds whose bits are three or more are those with too many donors
crowded_rounds : (ws : List ℕ) → Legible ws → rounds (λ r. many (new_round (lifts ws) r)) ≡ rounds (too_many_donors (lifts ws))
crowded_rounds ws l = filter_ext 1 most_rounds (λ r _ _. ap (λ n. ltb 0 (lift_count New r (lifts ws)) && leb 3 n) (donors_count ws l r))

-- ---- the ways out

-- a refusal that meets a round, and one that meets none
met : (n : ℕ) {r : ℕ} (rs : List ℕ) (v : Verdict) → Some r ≡ found_first rs → refused (numbered n r) ≡ first_round n rs v
unfolding first_round
met n [] v e = cc
met n (x ∷ rs) v e = cc

unmet : (n : ℕ) (rs : List ℕ) (v : Verdict) → None ≡ found_first rs → v ≡ first_round n rs v
unfolding first_round
unmet n [] v e = refl
unmet n (r ∷ rs) v e = cc

module _ (ls : List Lift) where
  pub at_not_one_held : {r : ℕ} → Some r ≡ found_first (rounds (not_one_held ls)) → refused (numbered 7 r) ≡ of_rounds [] ls
  unfolding of_rounds
  at_not_one_held e = met 7 _ _ e

  module _ (a : None ≡ found_first (rounds (not_one_held ls))) where
    pub at_old : {r : ℕ} → Some r ≡ found_first (rounds (oversize Old ls)) → refused (numbered 8 r) ≡ of_rounds [] ls
    unfolding of_rounds
    at_old e = met 8 _ _ e ∙ unmet 7 _ _ a

    module _ (b : None ≡ found_first (rounds (oversize Old ls))) where
      pub at_new : {r : ℕ} → Some r ≡ found_first (rounds (oversize New ls)) → refused (numbered 8 r) ≡ of_rounds [] ls
      unfolding of_rounds
      at_new e = met 8 _ _ e ∙ unmet 8 _ _ b ∙ unmet 7 _ _ a

      module _ (c : None ≡ found_first (rounds (oversize New ls))) where
        pub at_zero_sum : {r : ℕ} → Some r ≡ found_first (rounds (zero_sum ls)) → refused (numbered 9 r) ≡ of_rounds [] ls
        unfolding of_rounds
        at_zero_sum e = met 9 _ _ e ∙ unmet 8 _ _ c ∙ unmet 8 _ _ b ∙ unmet 7 _ _ a

        pub at_last : None ≡ found_first (rounds (zero_sum ls)) → fits (length ls) (length (in_use New ls)) ≡ of_rounds [] ls
        unfolding of_rounds first_refusal
        at_last e = unmet 9 _ _ e ∙ unmet 8 _ _ c ∙ unmet 8 _ _ b ∙ unmet 7 _ _ a

module _ (refuses : List Lift → List Refusal) (ws : List ℕ) where
  pub at_word : {x : Numbered} → faulty x ≡ of_words ws → refused x ≡ verdict_by refuses ws
  unfolding verdict_by
  at_word e = ap (λ r. unless_faulty r (of_rounds (refuses (lifts ws)) (lifts ws))) e

  pub at_rounds : {v : Verdict} → sound ≡ of_words ws → v ≡ of_rounds (refuses (lifts ws)) (lifts ws) → v ≡ verdict_by refuses ws
  unfolding verdict_by
  at_rounds e q = q ∙ ap (λ r. unless_faulty r (of_rounds (refuses (lifts ws)) (lifts ws))) e

-- ---- fitting

-- a refusal that is not given meets no round
passed : (n : ℕ) (rs : List ℕ) (v : Verdict) {a b : ℕ} → first_round n rs v ≡ fits a b → (rs ≡ []) × (v ≡ fits a b)
unfolding first_round
passed n [] v e = (refl, e)
passed n (r ∷ rs) v e = (cc, cc)

passed_last : (xs : List Refusal) (v : Verdict) {a b : ℕ} → first_refusal xs v ≡ fits a b → (xs ≡ []) × (v ≡ fits a b)
unfolding first_refusal
passed_last [] v e = (refl, e)
passed_last (x ∷ xs) v e = (cc, cc)

pub read_through : (r : Reading) (v : Verdict) {a b : ℕ} → unless_faulty r v ≡ fits a b → (r ≡ sound) × (v ≡ fits a b)
read_through sound v e = (refl, e)
read_through (faulty x) v e = (cc, cc)

-- no round passes a test where none is listed, and the other way round
clear : (p : ℕ → Bool) → Nowhere p → rounds p ≡ []
clear p h = filter_none p 1 most_rounds (λ t l m. h t l (omega arith))

none : (p : ℕ → Bool) → rounds p ≡ [] → Nowhere p
none p e r l m = none_filtered p 1 most_rounds e r l (omega arith)

pub decided : DecidedTheorem
unfolding verdict_by of_rounds first_round first_refusal
decided refuses ws =
    record {
      passes = λ f.
          let g = f.rounds in
          sym
          (at_rounds refuses ws (words_legible f.legible)
          (rw (clear (not_one_held ls) g.held, clear (oversize Old ls) g.old, clear (oversize New ls) g.new, clear (zero_sum ls) g.measured, f.last)));
      only = λ n k e.
          let w = read_through (of_words ws) (of_rounds (refuses ls) ls) e in
          let a = passed 7 (rounds (not_one_held ls)) _ w.1 in
          let b = passed 8 (rounds (oversize Old ls)) _ a.1 in
          let c = passed 8 (rounds (oversize New ls)) _ b.1 in
          let d = passed 9 (rounds (zero_sum ls)) _ c.1 in
          let g = passed_last (refuses ls) _ d.1 in
          let fitting : FittingBy refuses ws = record {
            legible = legible_words w.0;
            rounds = record {
              held = none (not_one_held ls) a.0;
              old = none (oversize Old ls) b.0;
              new = none (oversize New ls) c.0;
              measured = none (zero_sum ls) d.0;
            };
            last = g.0;
          } in
          (fitting, cc g.1, cc g.1);
      above = λ x e. subst Above e (above refuses ws);
    }
  where
    ls : List Lift
    ls = lifts ws

-- the lifts of a fitting sheet fit
pub fit : {refuses : List Lift → List Refusal} {ws : List ℕ} → FittingBy refuses ws → FitBy refuses (lifts ws)
fit {ws = ws} f = record { well_formed = (read_theorem ws f.legible.read).well_formed; rounds = f.rounds; last = f.last }

-- and lifts that fit have a fitting sheet, if it is not too long
pub fits_sheet : {refuses : List Lift → List Refusal} {ls : List Lift} → FitBy refuses ls → length (sheet_of ls) ≤ longest → FittingBy refuses (sheet_of ls)
fits_sheet {ls = ls} f h =
    let w = written_theorem ls f.well_formed in
    record { legible = record { short = h; read = w.sound }; rounds = rw w.back f.rounds; last = rw w.back f.last }

-- where 10 is among the refusals, no round of fitting lifts has too many donors
pub few_donors : {ls : List Lift} → Fit ls → Nowhere (too_many_donors ls)
few_donors {ls} f = none (too_many_donors ls) (unmapped (rounds (too_many_donors ls)) f.last)
  where
    unmapped : (rs : List ℕ) → map TooManyDonors rs ≡ [] → rs ≡ []
    unmapped [] e = refl
    unmapped (r ∷ rs) e = cc

pub donors_fit : (ls : List Lift) → Nowhere (too_many_donors ls) → crowded ls ≡ []
donors_fit ls h = ap (map TooManyDonors) (clear (too_many_donors ls) h)

-- ---- refusals behind 9

-- what some refusals make of a verdict that comes before them
abbrev behind : List Refusal → Verdict → Verdict
behind xs (refused x) = refused x
behind xs (fits n k) = first_refusal xs (fits n k)

behind_round : (xs : List Refusal) (n : ℕ) (rs : List ℕ) (v : Verdict) {w : Verdict} → behind xs v ≡ w → behind xs (first_round n rs v) ≡ first_round n rs w
unfolding first_round
behind_round xs n [] v e = e
behind_round xs n (r ∷ rs) v e = refl

behind_word : (xs : List Refusal) (r : Reading) (v : Verdict) {w : Verdict} → behind xs v ≡ w → behind xs (unless_faulty r v) ≡ unless_faulty r w
behind_word xs (faulty x) v e = refl
behind_word xs sound v e = e

-- refusal 10 of the first round that meets it is the first of all refusals 10
ten : (rs : List ℕ) (v : Verdict) → first_round 10 rs v ≡ first_refusal (map TooManyDonors rs) v
unfolding first_round first_refusal
ten [] v = refl
ten (r ∷ rs) v = refl

-- every verdict is the one up to 9, with the refusals behind it
behind_nine : (refuses : List Lift → List Refusal) (ws : List ℕ) → behind (refuses (lifts ws)) (verdict_by nothing_more ws) ≡ verdict_by refuses ws
unfolding verdict_by of_rounds first_refusal
behind_nine refuses ws =
    let xs = refuses (lifts ws) in
    behind_word xs (of_words ws) _ (behind_round xs 7 _ _ (behind_round xs 8 _ _ (behind_round xs 8 _ _ (behind_round xs 9 _ _ refl))))

-- a sheet that is refused up to 9 is refused with more behind 9
pub still_refused : (ws : List ℕ) (x : Refusal) → refused (refusal_of x) ≡ verdict_by nothing_more ws → refused (refusal_of x) ≡ verdict ws
still_refused ws x q = ap (behind (crowded (lifts ws))) q ∙ behind_nine crowded ws

-- a sheet that fits up to 9, with its tables
module _ (ws : List ℕ) {n k : ℕ} (a : fits n k ≡ verdict_by nothing_more ws) {t : Tallies} (d : Tabled (lifts ws) t) where
  behind_answer : first_refusal (crowded (lifts ws)) (fits n k) ≡ verdict ws
  behind_answer = ap (behind (crowded (lifts ws))) a ∙ behind_nine crowded ws

  module _ {f : Option ℕ} (q : f ≡ found_first (rounds (λ r. many (get_or t.new r new_none)))) where
    found_crowded : f ≡ found_first (rounds (too_many_donors (lifts ws)))
    found_crowded =
        let x = ((decided nothing_more ws).only _ _ (sym a)).0 in
        q ∙ new_tested many d ∙ ap found_first (crowded_rounds ws x.legible)

    pub at_too_many_donors : {r : ℕ} → f ≡ Some r → refused (numbered 10 r) ≡ verdict ws
    at_too_many_donors g = met 10 _ _ (sym g ∙ found_crowded) ∙ ten (rounds (too_many_donors (lifts ws))) _ ∙ behind_answer

    pub still_fits : f ≡ None → fits n k ≡ verdict ws
    still_fits g = unmet 10 _ _ (sym g ∙ found_crowded) ∙ ten (rounds (too_many_donors (lifts ws))) _ ∙ behind_answer

-- a sheet that the verdict fits fits
pub judged_fits : (ws : List ℕ) {n k : ℕ} → fits n k ≡ verdict ws → Fitting ws
judged_fits ws e = ((decided crowded ws).only _ _ (sym e)).0
