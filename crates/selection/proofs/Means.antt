-- Means over the lifts of an old round. The sum over all initial selections is a mean over one old round of means over the others, and
-- an old round that a function doesn't look at drops out.
use Prim.Native.Nat.{ℕ, zero, suc, ◌+◌, ◌*◌, ◌≤◌, ◌<◌}
use mathlib.Core.Path.{◌≡◌, refl, sym, ap, fun_ext, ◌∙◌}
use mathlib.Core.Bool.{Bool, true, false, cond, ◌&&◌, true≢false}
use mathlib.Core.List.{List, [], ◌∷◌, ◌++◌, map}
use native.Mathlib.Nat.{mul-pos}
use native.Mathlib.Omega.{arith}
use lib.Dec.{eqb, ltb}
use lib.ListN.{length, get_or}
use borrow.Author.Tests.{eqb-true, ltb-false}
use Rattle.probability.specs.Sum.{over, value_by}
use Rattle.probability.specs.Fraction.{Fraction, ◌//◌, ◌⊕◌, ◌⊗◌, ◌≈◌, sum, sum_over}
use Rattle.probability.proofs.Sums.{Σ-map, total_by_map}
use Rattle.probability.proofs.Fractions.{pos_right, ≈-refl, ≈-trans, ≈-num, ⊕-≈, ⊗-assoc, ⊗-≈, sum_over-++, sum_over_map, sum_over_part, sum-≈, sum_same, sum_right}
use Rattle.sheet.specs.Sheet.{Lift}
use Rattle.tally.specs.Rounds.{filter_range, sum_of}
use Rattle.sheet.specs.Lift.{Old}
use Rattle.selection.specs.Choice.{no_lift}
use Rattle.selection.specs.Initial.{eligible, each, selections_from, product, initial_weight}

-- the lift at a place of a list
abbrev pub nth : List Lift → ℕ → Lift
nth ls i = get_or ls i no_lift

-- the old measure of a lift of old round t, 0 of another
abbrev pub brought : ℕ → Lift → ℕ
brought t l = value_by (λ l. l.old.round) (λ l. l.old.measure) t l

-- the mean of f over the lifts of old round t, each by its old measure over T
unfoldable pub mean : ℕ → ℕ → List Lift → (Lift → Fraction) → Fraction
mean t T ls f = sum (length ls) (λ i. brought t (nth ls i) // T ⊗ f (nth ls i))

-- what a lift weighs counts only in its own old round
pub brought-≈ : (t T : ℕ) → 0 < T → (l : Lift) (q r : Fraction) → 0 < q.den → 0 < r.den → (l.old.round ≡ t → q ≈ r) → brought t l // T ⊗ q ≈ brought t l // T ⊗ r
brought-≈ t T p l q r u v h = go (eqb l.old.round t) refl
  where
    go : (x : Bool) → eqb l.old.round t ≡ x → cond x l.old.measure 0 // T ⊗ q ≈ cond x l.old.measure 0 // T ⊗ r
    go true e = ⊗-≈ (≈-refl p) (h (eqb-true l.old.round t e))
    go false e = record { cross = omega arith; left = mul-pos p u; right = mul-pos p v }

pub mean-≈ : (t T : ℕ) → 0 < T → (ls : List Lift) (f g : Lift → Fraction) → ((l : Lift) → 0 < (f l).den) → ((l : Lift) → 0 < (g l).den)
    → ((i : ℕ) → i < length ls → (nth ls i).old.round ≡ t → f (nth ls i) ≈ g (nth ls i)) → mean t T ls f ≈ mean t T ls g
unfolding mean
mean-≈ t T p ls f g u v h = sum-≈ (length ls) (λ i b. brought-≈ t T p (nth ls i) (f (nth ls i)) (g (nth ls i)) (u (nth ls i)) (v (nth ls i)) (h i b))

pub mean_den : (t T : ℕ) → 0 < T → (ls : List Lift) (f : Lift → Fraction) → ((l : Lift) → 0 < (f l).den) → 0 < (mean t T ls f).den
mean_den t T p ls f d = (mean-≈ t T p ls f f d d (λ i _ _. ≈-refl (d (nth ls i)))).left

-- what doesn't depend on the lift is its own mean
mean_const : (t : ℕ) (ls : List Lift) → 0 < sum_of Old t ls → (q : Fraction) → 0 < q.den → mean t (sum_of Old t ls) ls (λ _. q) ≈ q
unfolding mean
mean_const t ls p q d =
    let T = sum_of Old t ls in
    let e = Σ-map (brought t) no_lift ls ∙ sym (total_by_map (λ l. l.old.round) (λ l. l.old.measure) t ls) in
    let w = ≈-num e (sum_same (length ls) {f = λ i. brought t (nth ls i) // T} {a = λ i. brought t (nth ls i)} {S = T} p (λ i _. ≈-refl p)) in
    ≈-trans (sum_right (length ls) q (λ i. brought t (nth ls i) // T) d (λ i _. p))
    (≈-trans (⊗-≈ w (≈-refl d)) (record { cross = omega arith; left = mul-pos p d; right = d }))

-- ---- sums over selections, and the means that they are

-- what weighs nothing adds nothing
add_none : {s r : Fraction} (w T : ℕ) (q : Fraction) → w ≡ 0 → 0 < T → 0 < q.den → s ≈ r → s ≈ w // T ⊗ q ⊕ r
add_none w T q e p d h =
    rw e (record { cross = omega (arith, ap (λ x. x * (T * q.den)) h.cross); left = h.left; right = mul-pos (mul-pos p d) h.right })

-- selections that begin with each eligible lift
module _ (t T : ℕ) (p : 0 < T) (ms : List (List Lift)) (f : List Lift → Fraction) (h : Lift → Fraction) (e : (l : Lift) → sum_over ms (λ m. f (l ∷ m)) ≈ l.old.measure // T ⊗ h l) where
  mean_each : (ls : List Lift) → sum_over (each (eligible t ls) ms) f ≈ mean t T ls h
  unfolding mean over each eligible sum_over
  mean_each [] = ≈-refl (omega arith)
  mean_each (l ∷ ls) = go (eqb l.old.round t) (ltb 0 l.old.measure) refl (mean_each ls)
    where
      go : (x y : Bool) → ltb 0 l.old.measure ≡ y → sum_over (each (eligible t ls) ms) f ≈ mean t T ls h
          → sum_over (each (cond (x && y) (l ∷ eligible t ls) (eligible t ls)) ms) f ≈ cond x l.old.measure 0 // T ⊗ h l ⊕ mean t T ls h
      go true true m r = rw (sum_over-++ (map (λ m. l ∷ m) ms) (each (eligible t ls) ms) f, sum_over_map (λ m. l ∷ m) ms f) (⊕-≈ (e l) r)
      go true false m r = add_none l.old.measure T (h l) (omega (arith, ltb-false)) p (pos_right T _ (e l).right) r
      go false y m r = add_none 0 T (h l) refl p (pos_right T _ (e l).right) r

-- the mean over the lifts of each of some old rounds
unfoldable pub means : List ℕ → List Lift → (List Lift → Fraction) → Fraction
means [] ls f = f []
means (t ∷ ts) ls f = mean t (sum_of Old t ls) ls (λ l. means ts ls (λ m. f (l ∷ m)))

-- the mean over one more old round
mean_first : (t : ℕ) (ts : List ℕ) (ms : List (List Lift)) (ls : List Lift) → 0 < sum_of Old t ls → (f : List Lift → Fraction) (h : Lift → Fraction)
    → ((l : Lift) → sum_over ms (λ m. initial_weight ts m ls ⊗ f (l ∷ m)) ≈ h l)
    → sum_over (each (eligible t ls) ms) (λ m. initial_weight (t ∷ ts) m ls ⊗ f m) ≈ mean t (sum_of Old t ls) ls h
unfolding product initial_weight
mean_first t ts ms ls p f h e =
    mean_each t (sum_of Old t ls) p ms whole h
    (λ l.
    let q : Fraction = l.old.measure // sum_of Old t ls in
    let part = sum_over_part q p (λ m. initial_weight ts m ls ⊗ f (l ∷ m)) (λ m. whole (l ∷ m)) (λ m. ⊗-assoc q (initial_weight ts m ls) (f (l ∷ m))) ms (e l).left in
    ≈-trans part (⊗-≈ (≈-refl p) (e l)))
    ls
  where
    whole : List Lift → Fraction
    whole m = initial_weight (t ∷ ts) m ls ⊗ f m

-- f doesn't look at the lifts of old rounds that fail the test
abbrev pub Unseen : (ℕ → Bool) → List Lift → (List Lift → Fraction) → Type 0
Unseen q ls f = (k m : List Lift) (i : ℕ) → i < length ls → q (nth ls i).old.round ≡ false → f (k ++ nth ls i ∷ m) ≡ f (k ++ m)

-- the sum over the selections of old rounds ts is the mean over the old rounds ds, of all that doesn't look at those that fail the test
abbrev pub Reduces : (ℕ → Bool) → List Lift → List ℕ → List ℕ → Type 0
Reduces q ls ts ds =
    (f : List Lift → Fraction) → ((m : List Lift) → 0 < (f m).den) → Unseen q ls f
    → sum_over (selections_from ts ls) (λ m. initial_weight ts m ls ⊗ f m) ≈ means ds ls f

-- one more old round, looked at or not
module _ (q : ℕ → Bool) (ls : List Lift) (t : ℕ) (ts ds : List ℕ) (p : 0 < sum_of Old t ls) (r : Reduces q ls ts ds) where
  seen : Reduces q ls (t ∷ ts) (t ∷ ds)
  unfolding selections_from means
  seen f d u =
      mean_first t ts (selections_from ts ls) ls p f (λ l. means ds ls (λ m. f (l ∷ m))) (λ l. r (λ m. f (l ∷ m)) (λ m. d (l ∷ m)) (λ k. u (l ∷ k)))

  unseen : q t ≡ false → Reduces q ls (t ∷ ts) ds
  unfolding means
  unseen e f d u =
      let w = (r f d u).right in
      let same : (i : ℕ) → i < length ls → (nth ls i).old.round ≡ t → means ds ls (λ m. f (nth ls i ∷ m)) ≈ means ds ls f
      = λ i b v. rw (fun_ext (λ m. u [] m i b (ap q v ∙ e))) (≈-refl w) in
      ≈-trans (seen f d u)
      (≈-trans
      (mean-≈ t (sum_of Old t ls) p ls (λ l. means ds ls (λ m. f (l ∷ m))) (λ _. means ds ls f)
      (λ l. (r (λ m. f (l ∷ m)) (λ m. d (l ∷ m)) (λ k. u (l ∷ k))).right) (λ _. w) same)
      (mean_const t ls p (means ds ls f) w))

-- the old rounds that fail the test drop out
pub reduced : (ls : List Lift) (p q : ℕ → Bool) → ((t : ℕ) → q t ≡ true → p t ≡ true)
    → (a n : ℕ) → ((t : ℕ) → a ≤ t → t < a + n → p t ≡ true → 0 < sum_of Old t ls) → Reduces q ls (filter_range p a n) (filter_range q a n)
unfolding filter_range selections_from sum_over product initial_weight means
reduced ls p q h a zero s = λ f d u. record { cross = omega arith; left = omega (arith, d []); right = d [] }
reduced ls p q h a (suc n) s =
    go (p a) (q a) refl refl (reduced ls p q h (suc a) n (λ t l m. s t (omega arith) (omega arith)))
  where
    ts : List ℕ
    ts = filter_range p (suc a) n

    ds : List ℕ
    ds = filter_range q (suc a) n

    go : (x y : Bool) → p a ≡ x → q a ≡ y → Reduces q ls ts ds → Reduces q ls (cond x (a ∷ ts) ts) (cond y (a ∷ ds) ds)
    go true true e k r = seen q ls a ts ds (s a (omega arith) (omega arith) e) r
    go true false e k r = unseen q ls a ts ds (s a (omega arith) (omega arith) e) r k
    go false true e k r = absurd (true≢false (sym (h a k) ∙ e))
    go false false e k r = r
