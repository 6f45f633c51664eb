-- The numbers that pass a test, `filter_range`: which they are, how many, and which come first. By induction along the range.
use Prim.Native.Nat.{ℕ, zero, suc, ◌+◌, ◌-◌, ◌≤◌, ◌<◌}
use mathlib.Core.Path.{◌≡◌, refl, sym, ap, ap₂, ◌∙◌}
use mathlib.Core.Bool.{Bool, true, false, cond, false≢true}
use mathlib.Core.Logic.{⊎_elim}
use mathlib.Core.List.Memᴰ
use mathlib.Core.List.{List, [], ◌∷◌, ◌++◌, cons≢nil, nil≢cons, Memᴰ}
use native.Mathlib.Nat.{add-zero}
use native.Mathlib.Numerals.{add-one}
use native.Mathlib.Omega.{arith}
use lib.Dec.{eqb}
use lib.ListN.{length}
use borrow.Author.Tests.{eqb-true, eqb-false}
use Rattle.probability.specs.Sum.{total_by, over, indicator, count}
use Rattle.probability.proofs.Sums.{over_ext, length_cond, total_by_none}
use Rattle.sheet.specs.Sheet.{most_rounds}
use Rattle.tally.specs.Rounds.{filter_range}

-- tests that agree give the same numbers
pub filter_ext : (a n : ℕ) {p q : ℕ → Bool} → ((t : ℕ) → a ≤ t → t < a + n → p t ≡ q t) → filter_range p a n ≡ filter_range q a n
unfolding filter_range
filter_ext a zero h = refl
filter_ext a (suc n) {p} {q} h =
    rw (h a (omega arith) (omega arith), filter_ext (suc a) n {p = p} {q = q} (λ t l r. h t (omega arith) (omega arith)))

-- how many they are
pub filter_count : (p : ℕ → Bool) (a n : ℕ) → length (filter_range p a n) ≡ count n (λ t. p (a + t))
unfolding filter_range over
filter_count p a zero = refl
filter_count p a (suc n) =
    length_cond (p a) a (filter_range p (suc a) n)
    ∙ ap₂ ◌+◌ (ap (λ x. indicator (p x)) (sym (add-zero a)))
    (filter_count p (suc a) n ∙ over_ext ◌+◌ 0 n (λ t l. let e : suc a + t ≡ a + suc t = omega arith in ap (λ x. indicator (p x)) e))

-- a range in two parts
pub filter_cut : (p : ℕ → Bool) (a m n : ℕ) {b k : ℕ} → b ≡ a + m → k ≡ m + n → filter_range p a k ≡ filter_range p a m ++ filter_range p b n
unfolding filter_range
filter_cut p a zero n {b} {k} e f =
    let x : b ≡ a = omega arith in
    let y : k ≡ n = omega arith in
    rw (x, y)
filter_cut p a (suc m) n {b} {k} e f =
    let y : k ≡ suc (m + n) = omega arith in
    rw y (go (p a) (filter_cut p (suc a) m n {b = b} {k = m + n} (omega arith) refl))
  where
    go : (t : Bool) → filter_range p (suc a) (m + n) ≡ filter_range p (suc a) m ++ filter_range p b n
        → cond t (a ∷ filter_range p (suc a) (m + n)) (filter_range p (suc a) (m + n)) ≡ cond t (a ∷ filter_range p (suc a) m) (filter_range p (suc a) m) ++ filter_range p b n
    go true q = ap (λ l. a ∷ l) q
    go false q = q

-- there are none where none passes, and none passes where there are none
pub filter_none : (p : ℕ → Bool) (a n : ℕ) → ((t : ℕ) → a ≤ t → t < a + n → p t ≡ false) → filter_range p a n ≡ []
unfolding filter_range
filter_none p a zero h = refl
filter_none p a (suc n) h = rw (h a (omega arith) (omega arith)) (filter_none p (suc a) n (λ t l r. h t (omega arith) (omega arith)))

pub none_filtered : (p : ℕ → Bool) (a n : ℕ) → filter_range p a n ≡ [] → (t : ℕ) → a ≤ t → t < a + n → p t ≡ false
unfolding filter_range
none_filtered p a zero e t l r = absurd (omega arith)
none_filtered p a (suc n) e t l r = go (p a) refl e (λ q m. none_filtered p (suc a) n q t m (omega arith)) (eqb a t) refl
  where
    go : (x : Bool) → p a ≡ x → cond x (a ∷ filter_range p (suc a) n) (filter_range p (suc a) n) ≡ [] → (filter_range p (suc a) n ≡ [] → suc a ≤ t → p t ≡ false)
        → (y : Bool) → eqb a t ≡ y → p t ≡ false
    go true h q rest y f = absurd (cons≢nil q)
    go false h q rest true f = ap p (sym (eqb-true a t f)) ∙ h
    go false h q rest false f = rest q (omega (arith, eqb-false a t f))

-- they are at most as many as the numbers tried
pub filter_few : (p : ℕ → Bool) (a n : ℕ) → length (filter_range p a n) ≤ n
unfolding filter_range
filter_few p a zero = omega arith
filter_few p a (suc n) = go (p a) (filter_few p (suc a) n)
  where
    go : (t : Bool) → length (filter_range p (suc a) n) ≤ n → length (cond t (a ∷ filter_range p (suc a) n) (filter_range p (suc a) n)) ≤ suc n
    go true e = omega arith
    go false e = omega arith

-- ---- which they are

-- each passes the test, within the bounds
pub filter_in : (p : ℕ → Bool) (a n r : ℕ) → Memᴰ r (filter_range p a n) → (p r ≡ true) × (a ≤ r) × (r < a + n)
unfolding filter_range
filter_in p a zero r d = absurd (Memᴰ.not-nil d)
filter_in p a (suc n) r d = go (p a) refl d (filter_in p (suc a) n r)
  where
    go : (t : Bool) → p a ≡ t → Memᴰ r (cond t (a ∷ filter_range p (suc a) n) (filter_range p (suc a) n))
        → (Memᴰ r (filter_range p (suc a) n) → (p r ≡ true) × (suc a ≤ r) × (r < suc a + n)) → (p r ≡ true) × (a ≤ r) × (r < a + suc n)
    go true h k rest =
        ⊎_elim (λ e. (ap p e ∙ h, omega arith, omega arith)) (λ e. let q = rest e in (q.0, omega (arith, q.1), omega (arith, q.2))) (Memᴰ.cases_cons k)
    go false h k rest = let q = rest k in (q.0, omega (arith, q.1), omega (arith, q.2))

-- those that pass are among them
pub filter_has : (p : ℕ → Bool) (a n t : ℕ) → p t ≡ true → a ≤ t → t < a + n → Memᴰ t (filter_range p a n)
unfolding filter_range
filter_has p a zero t e l h = absurd (omega arith)
filter_has p a (suc n) t e l h = go (eqb a t) refl (p a) refl (λ m. filter_has p (suc a) n t e m (omega arith))
  where
    go : (y : Bool) → eqb a t ≡ y → (x : Bool) → p a ≡ x → (suc a ≤ t → Memᴰ t (filter_range p (suc a) n))
        → Memᴰ t (cond x (a ∷ filter_range p (suc a) n) (filter_range p (suc a) n))
    go true f true q r = Memᴰ.head (sym (eqb-true a t f))
    go true f false q r = absurd (false≢true (sym q ∙ ap p (eqb-true a t f) ∙ e))
    go false f true q r = Memᴰ.tail (r (omega (arith, eqb-false a t f)))
    go false f false q r = r (omega (arith, eqb-false a t f))

-- none is there twice
pub filter_once : (p : ℕ → Bool) (a n t : ℕ) → total_by (λ s. s) (λ _. 1) t (filter_range p a n) ≤ 1
unfolding filter_range total_by
filter_once p a zero t = omega arith
filter_once p a (suc n) t = go (p a) (eqb a t) refl (filter_once p (suc a) n t)
  where
    rest : List ℕ
    rest = filter_range p (suc a) n

    go : (x y : Bool) → eqb a t ≡ y → total_by (λ s. s) (λ _. 1) t rest ≤ 1 → total_by (λ s. s) (λ _. 1) t (cond x (a ∷ rest) rest) ≤ 1
    go true true e r =
        rw e (omega (arith, total_by_none (λ s. s) t (λ _. 1) rest (λ s m q. absurd (omega (arith, (filter_in p (suc a) n s m).1, eqb-true a t e)))))
    go true false e r = rw e (omega arith)
    go false y e r = r

-- the only one that passes
pub filter_only : (p : ℕ → Bool) (a n t : ℕ) → p t ≡ true → a ≤ t → t < a + n → ((s : ℕ) → (s ≡ t → ⊥) → p s ≡ false) → filter_range p a n ≡ t ∷ []
unfolding filter_range
filter_only p a zero t e l h o = absurd (omega arith)
filter_only p a (suc n) t e l h o = go (eqb a t) refl (λ m. filter_only p (suc a) n t e m (omega arith) o)
  where
    go : (y : Bool) → eqb a t ≡ y → (suc a ≤ t → filter_range p (suc a) n ≡ t ∷ []) → cond (p a) (a ∷ filter_range p (suc a) n) (filter_range p (suc a) n) ≡ t ∷ []
    go true q r = let z : a ≡ t = eqb-true a t q in rw (z, e, filter_none p (suc t) n (λ s k _. o s (omega arith)))
    go false q r = rw (o a (eqb-false a t q)) (r (omega (arith, eqb-false a t q)))

-- ---- the first of them

pub record Head (p : ℕ → Bool) (a n d : ℕ) (ds : List ℕ) : Type 0 where
  pub from : a ≤ d
  pub upto : d < a + n
  pub passes : p d ≡ true
  pub rest : ds ≡ filter_range p (suc d) (a + n - suc d)

pub filter_head : (p : ℕ → Bool) (a n d : ℕ) (ds : List ℕ) → filter_range p a n ≡ d ∷ ds → Head p a n d ds
unfolding filter_range
filter_head p a zero d ds e = absurd (nil≢cons e)
filter_head p a (suc n) d ds e = go (p a) refl e (filter_head p (suc a) n d ds)
  where
    go : (t : Bool) → p a ≡ t → cond t (a ∷ filter_range p (suc a) n) (filter_range p (suc a) n) ≡ d ∷ ds
        → (filter_range p (suc a) n ≡ d ∷ ds → Head p (suc a) n d ds) → Head p a (suc n) d ds
    go true h q r =
        let x : a ≡ d = cc in
        let y : filter_range p (suc a) n ≡ ds = cc in
        let k : a + suc n - suc d ≡ n = omega arith in
        record { from = omega arith; upto = omega arith; passes = ap p (sym x) ∙ h; rest = sym y ∙ rw (k, x) refl }
    go false h q r =
        let f = r q in
        let k : suc a + n ≡ a + suc n = omega arith in
        record { from = omega (arith, f.from); upto = omega (arith, f.upto); passes = f.passes; rest = f.rest ∙ ap (λ x. filter_range p (suc d) (x - suc d)) k }

-- numbers from a up, rising, each with a property
abbrev pub Rising : (ℕ → Type 0) → ℕ → List ℕ → Type 0
Rising P a [] = Unit {0}
Rising P a (d ∷ ds) = (a ≤ d) × P d × Rising P (suc d) ds

pub filter_rise : (P : ℕ → Type 0) (q : ℕ → Bool) (a n : ℕ) → ((t : ℕ) → a ≤ t → t < a + n → q t ≡ true → P t) → Rising P a (filter_range q a n)
unfolding filter_range
filter_rise P q a zero h = tt
filter_rise P q a (suc n) h = go (q a) refl (filter_rise P q (suc a) n (λ t l m. h t (omega arith) (omega arith)))
  where
    lower : (ds : List ℕ) → Rising P (suc a) ds → Rising P a ds
    lower [] x = tt
    lower (d ∷ ds) x = (omega (arith, x.0), x.1, x.2)

    go : (x : Bool) → q a ≡ x → Rising P (suc a) (filter_range q (suc a) n) → Rising P a (cond x (a ∷ filter_range q (suc a) n) (filter_range q (suc a) n))
    go true e k = (omega arith, h a (omega arith) (omega arith) e, k)
    go false e k = lower (filter_range q (suc a) n) k

-- ---- the rounds from r up

abbrev pub from : (ℕ → Bool) → ℕ → List ℕ
from p r = filter_range p r (most_rounds + 1 - r)

pub from_step : (p : ℕ → Bool) (r : ℕ) → r ≤ most_rounds → from p r ≡ cond (p r) (r ∷ from p (r + 1)) (from p (r + 1))
unfolding filter_range
from_step p r h =
    let e : most_rounds + 1 - r ≡ suc (most_rounds + 1 - (r + 1)) = omega arith in
    rw (e, add-one r)

pub from_none : (p : ℕ → Bool) (r : ℕ) → most_rounds < r → from p r ≡ []
unfolding filter_range
from_none p r h =
    let e : most_rounds + 1 - r ≡ 0 = omega arith in
    rw e
