-- Of all initial selections a new round sees only the held lifts of its donors: the mean over all is that over these. By induction along the donors.
use Prim.Native.Nat.{ℕ, suc, ◌+◌, ◌≤◌, ◌<◌}
use mathlib.Core.Path.{◌≡◌, refl, sym, ap, ap₂, ◌∙◌}
use mathlib.Core.Bool.{Bool, true, false, cond, ◌&&◌, ◌||◌, true≢false}
use mathlib.Core.List.{List, [], ◌∷◌, ◌++◌, map}
use native.Mathlib.Omega.{arith}
use lib.Dec.{eqb, ltb}
use lib.ListN.{length}
use borrow.Author.Tests.{eqb-true, lt-ltb, not-false}
use Rattle.probability.specs.Sum.{total_by, indicator}
use Rattle.probability.specs.Initial.{Initial}
use Rattle.probability.specs.Fraction.{Fraction, ◌//◌, ◌≈◌}
use Rattle.probability.proofs.Fractions.{≈-refl, ≈-trans}
use Rattle.round.specs.Share.{mean_over_initial, mean_over_donors}
use Rattle.reply.specs.declared.Refusal.{Refusal}
use Rattle.sheet.specs.Sheet.{most_rounds, Lift}
use Rattle.sheet.specs.Law.{AllWellFormed}
use Rattle.tally.specs.Law.{FitBy}
use Rattle.sheet.specs.Lift.{Old}
use Rattle.tally.proofs.Ranges.{filter_none, Rising, filter_rise}
use Rattle.tally.specs.Rounds.{lift_count, sum_of, held_count, sends, donors, of_round, donor_number, held_at}
use Rattle.selection.specs.Choice.{in_round, lifts_of, held_of_round}
use Rattle.selection.specs.Initial.{marked, initial_weight, mean_over_selections}
use Rattle.selection.proofs.Marks.{sends_marked, of_round_marked}
use Rattle.selection.proofs.RoundsFit.{Keys, donor_keys, whole_of}
use Rattle.selection.proofs.Means.{nth, mean-≈, mean_den, means, Unseen, reduced}
use Rattle.selection.proofs.Standing.{numbered_once, held_at_drop, stands, sorted}

-- ---- the rounds of a sheet

-- an old round holds no more lifts than it measures
held_measured : (n : ℕ) (ls : List Lift) → AllWellFormed n ls → (t : ℕ) → held_count t ls ≤ sum_of Old t ls
unfolding total_by AllWellFormed
held_measured n [] d t = omega arith
held_measured n (l ∷ ls) d t = omega (arith, one (eqb l.old.round t) l.held refl, held_measured l.number ls d.1 t)
  where
    one : (x y : Bool) → l.held ≡ y → cond x (indicator y) 0 ≤ cond x l.old.measure 0
    one true true e = d.0.held e
    one true false e = omega arith
    one false y e = omega arith

-- a donor is an old round in use
pub sends_named : (t r : ℕ) (ls : List Lift) → sends t r ls ≡ true → 0 < lift_count Old t ls
unfolding sends total_by
sends_named t r [] h = absurd (true≢false (sym h))
sends_named t r (l ∷ ls) h = go (eqb l.old.round t) h (sends_named t r ls)
  where
    go : (x : Bool) → (x && (eqb l.new.round r && ltb 0 l.old.measure) || sends t r ls) ≡ true → (sends t r ls ≡ true → 0 < lift_count Old t ls)
        → 0 < cond x 1 0 + lift_count Old t ls
    go true e k = omega arith
    go false e k = omega (arith, k e)

-- ---- the donors alone

-- a donor, of a sum above 0
abbrev Gives : ℕ → List Lift → ℕ → Type 0
Gives r ls d = (sends d r ls ≡ true) × (0 < sum_of Old d ls)

module _ (n : ℕ) (ls : List Lift) (l : AllWellFormed n ls) (r : ℕ) where
  abbrev us : List Lift
  us = of_round r ls

  -- where the held lifts of some old rounds are, if the lifts of m are held
  abbrev held_by : List ℕ → List Lift → List Initial
  held_by ds m = map (λ t. held_at t (marked m us)) ds

  -- m has one lift of each of some old rounds
  Names : List ℕ → List Lift → Type 0
  Names [] [] = Unit {0}
  Names [] (x ∷ m) = ⊥
  Names (d ∷ ds) [] = ⊥
  Names (d ∷ ds) (x ∷ m) = ((i : ℕ) × ((i < length ls) × ((nth ls i ≡ x) × (x.old.round ≡ d)))) × Names ds m

  -- a lift of another old round than d can be left out
  other : (i : ℕ) → i < length ls → (d : ℕ) → ((nth ls i).old.round ≡ d → ⊥) → (k m : List Lift) → held_at d (marked (k ++ nth ls i ∷ m) us) ≡ held_at d (marked (k ++ m) us)
  other i b d h k m = held_at_drop d r k m (nth ls i) ls (λ j c e z. h (ap (λ y. y.old.round) (numbered_once n ls l i j b c e) ∙ z))

  -- so can one that is of none of some old rounds
  without : (P : ℕ → Type 0) (i : ℕ) → i < length ls → ((d : ℕ) → P d → (nth ls i).old.round ≡ d → ⊥) → (k m : List Lift) (a : ℕ) (ds : List ℕ) → Rising P a ds
      → held_by ds (k ++ nth ls i ∷ m) ≡ held_by ds (k ++ m)
  without P i b h k m a [] s = refl
  without P i b h k m a (d ∷ ds) s = ap₂ ◌∷◌ (other i b d (h d s.1) k m) (without P i b h k m (suc d) ds s.2)

  -- and so can the lifts of later old rounds, for the first
  alone : (P : ℕ → Type 0) (d : ℕ) (x : Lift) (a : ℕ) (ds : List ℕ) (m : List Lift) → d < a → Rising P a ds → Names ds m → held_at d (marked (x ∷ m) us) ≡ stands d x us
  unfolding Names
  alone P d x a [] [] h s w = refl
  alone P d x a [] (y ∷ m) h s w = absurd w
  alone P d x a (e ∷ ds) [] h s w = absurd w
  alone P d x a (e ∷ ds) (y ∷ m) h s w =
      let i = w.0.0 in let z = w.0.1.1.0 in
      ap (λ t. held_at d (marked (x ∷ t ∷ m) us)) (sym z)
      ∙ other i w.0.1.0 d (λ q. omega (arith, s.0, ap (λ t. t.old.round) z, w.0.1.1.1)) (x ∷ []) m
      ∙ alone P d x (suc e) ds m (omega (arith, s.0)) s.2 w.1

  means_den : (a : ℕ) (ds : List ℕ) → Rising (Gives r ls) a ds → (F : List Lift → Fraction) → ((m : List Lift) → 0 < (F m).den) → 0 < (means ds ls F).den
  unfolding means
  means_den a [] s F u = u []
  means_den a (d ∷ ds) s F u = mean_den d (sum_of Old d ls) s.1.1 ls (λ x. means ds ls (λ m. F (x ∷ m))) (λ x. means_den (suc d) ds s.2 (λ m. F (x ∷ m)) (λ m. u (x ∷ m)))

  -- means over selections that have one lift of each of these old rounds
  means-≈ : (a : ℕ) (ds : List ℕ) → Rising (Gives r ls) a ds → (F H : List Lift → Fraction) → ((m : List Lift) → 0 < (F m).den) → ((m : List Lift) → 0 < (H m).den)
      → ((m : List Lift) → Names ds m → F m ≈ H m) → means ds ls F ≈ means ds ls H
  unfolding means Names
  means-≈ a [] s F H u v h = h [] tt
  means-≈ a (d ∷ ds) s F H u v h =
      mean-≈ d (sum_of Old d ls) s.1.1 ls (λ x. means ds ls (λ m. F (x ∷ m))) (λ x. means ds ls (λ m. H (x ∷ m)))
      (λ x. means_den (suc d) ds s.2 _ (λ m. u (x ∷ m))) (λ x. means_den (suc d) ds s.2 _ (λ m. v (x ∷ m)))
      (λ i b e. means-≈ (suc d) ds s.2 _ _ (λ m. u (nth ls i ∷ m)) (λ m. v (nth ls i ∷ m)) (λ m w. h (nth ls i ∷ m) ((i, (b, (refl, e))), w)))

  -- the mean over the lifts of the donors is that over where their held lifts are
  donors_mean : (key : ℕ → ℕ) (k a : ℕ) (ds : List ℕ) → Keys key k ds → Rising (Gives r ls) a ds → (f : List Initial → Fraction) → ((xs : List Initial) → 0 < (f xs).den)
      → means ds ls (λ m. f (held_by ds m)) ≈ mean_over_donors k (map (whole_of ls) ds) (map (in_round key) us) f
  unfolding means mean_over_donors mean_over_initial
  donors_mean key k a [] q s f u = ≈-refl (u [])
  donors_mean key k a (d ∷ ds) q s f u =
      let G : Initial → Fraction = λ x. mean_over_donors (suc k) (map (whole_of ls) ds) (map (in_round key) us) (λ xs. f (x ∷ xs)) in
      let rest : (x : Initial) → means ds ls (λ m. f (x ∷ held_by ds m)) ≈ G x = λ x. donors_mean key (suc k) (suc d) ds q.1 s.2 (λ xs. f (x ∷ xs)) (λ xs. u (x ∷ xs)) in
      let later : (i : ℕ) → (nth ls i).old.round ≡ d → (e : ℕ) → (suc d ≤ e) → (nth ls i).old.round ≡ e → ⊥ = λ i z e g y. omega arith in
      let step : (i : ℕ) → i < length ls → (nth ls i).old.round ≡ d → means ds ls (λ m. f (held_by (d ∷ ds) (nth ls i ∷ m))) ≈ G (stands d (nth ls i) us)
      = λ i b e. ≈-trans
      (means-≈ (suc d) ds s.2 (λ m. f (held_by (d ∷ ds) (nth ls i ∷ m))) (λ m. f (stands d (nth ls i) us ∷ held_by ds m)) (λ m. u _) (λ m. u _)
      (λ m w. rw (alone (Gives r ls) d (nth ls i) (suc d) ds m (omega arith) s.2 w, without (λ e. suc d ≤ e) i b (later i e) [] m (suc d) ds (rises (suc d) ds (omega arith) s.2)) (≈-refl (u _))))
      (rest (stands d (nth ls i) us)) in
      ≈-trans
      (mean-≈ d (sum_of Old d ls) s.1.1 ls (λ x. means ds ls (λ m. f (held_by (d ∷ ds) (x ∷ m)))) (λ x. G (stands d x us))
      (λ x. means_den (suc d) ds s.2 _ (λ m. u _)) (λ x. (rest (stands d x us)).right) step)
      (sorted d r k key q.0 (sum_of Old d ls) s.1.1 n ls l G (λ x. (rest x).right))
    where
      rises : (b : ℕ) (es : List ℕ) → suc d ≤ b → Rising (Gives r ls) b es → Rising (λ e. suc d ≤ e) b es
      rises b [] h t = tt
      rises b (e ∷ es) h t = (t.0, omega (arith, t.0), rises (suc e) es (omega (arith, t.0)) t.2)

-- an old round of lifts that fit has a sum above 0
measured : {refuses : List Lift → List Refusal} (ls : List Lift) → FitBy refuses ls → (t : ℕ) → 1 ≤ t → t < 1 + most_rounds → ltb 0 (lift_count Old t ls) ≡ true → 0 < sum_of Old t ls
measured ls f t a b e =
    let h : held_count t ls ≡ 1 = eqb-true (held_count t ls) 1 (not-false _ (rw e at (f.rounds.held t a (omega arith)))) in
    omega (arith, held_measured 0 ls f.well_formed.listed t)

-- ---- what is shown

-- the mean over all initial selections of what looks only at the held lifts of a round is that over its donors' alone
pub transfer : {refuses : List Lift → List Refusal} (ls : List Lift) → FitBy refuses ls → (r : ℕ) (F : List Initial → Fraction) → ((xs : List Initial) → 0 < (F xs).den)
    → mean_over_selections ls (λ ms. F (held_of_round r ms)) ≈ mean_over_donors 1 (map (whole_of ls) (donors r ls)) (lifts_of r ls) F
unfolding mean_over_selections initial_weight held_of_round lifts_of
transfer ls f r F u =
    let l = f.well_formed.listed in
    let h : (t : ℕ) → sends t r ls ≡ true → ltb 0 (lift_count Old t ls) ≡ true = λ t e. lt-ltb 0 (lift_count Old t ls) (sends_named t r ls e) in
    let ds = donors r ls in
    let s = filter_rise (Gives r ls) (λ t. sends t r ls) 1 most_rounds (λ t a b e. (e, measured ls f t a b (h t e))) in
    let seen : Unseen (λ t. sends t r ls) ls (λ m. F (held_by 0 ls l r ds m))
    = λ k m i b e. ap F (without 0 ls l r (Gives r ls) i b (λ d g z. true≢false (sym g.0 ∙ ap (λ t. sends t r ls) (sym z) ∙ e)) k m 1 ds s) in
    simp (sends_marked, of_round_marked)
    (≈-trans
    (reduced ls (λ t. ltb 0 (lift_count Old t ls)) (λ t. sends t r ls) h 1 most_rounds (measured ls f) (λ m. F (held_by 0 ls l r ds m)) (λ m. u _) seen)
    (donors_mean 0 ls l r (donor_number ds) 1 1 ds (donor_keys r ls) s F u))

-- all initial selections weigh 1 together
pub whole : {refuses : List Lift → List Refusal} (ls : List Lift) → FitBy refuses ls → mean_over_selections ls (λ _. 1 // 1) ≈ 1 // 1
unfolding mean_over_selections initial_weight means
whole ls f =
    let none : (t : ℕ) → false ≡ true → ltb 0 (lift_count Old t ls) ≡ true = λ t e. absurd (true≢false (sym e)) in
    rw (filter_none (λ _. false) 1 most_rounds (λ _ _ _. refl)) at
    (reduced ls (λ t. ltb 0 (lift_count Old t ls)) (λ _. false) none 1 most_rounds (measured ls f) (λ _. 1 // 1) (λ _. omega arith) (λ k m i b e. refl))
