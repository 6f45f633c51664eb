-- Laws of sums and of counting. Each goes by induction along the range or the list.
use Prim.Native.Nat.{ℕ, zero, suc, ◌+◌, ◌*◌, ◌≤◌, ◌<◌}
use mathlib.Core.Path.{◌≡◌, refl, sym, ap, ap₂, ◌∙◌}
use mathlib.Core.Bool.{Bool, true, false, cond}
use mathlib.Core.List.Memᴰ
use mathlib.Core.List.{List, [], ◌∷◌, map}
use native.Mathlib.Nat.{add_assoc, add_comm, suc-add, zero-add, mul-one, mul-zero, zero-mul, suc-mul}
use native.Mathlib.Omega.{arith}
use lib.ListN.{length, get_or, take, drop}
use lib.Dec.{eqb, eqb-suc-zero, eqb-zero-suc, eqb-suc-suc}
use borrow.Author.Tests.{eqb-true}
use Rattle.probability.specs.Sum.{over, Σ, total, value_by, total_by, indicator, count}
use Rattle.probability.proofs.Lists.{All}

-- ---- over a range

-- what relates the terms relates the sums, if it relates the units and goes along with both operations
pub over_related : {A B : Type 0} (R : A → B → Type 0) (op : A → A → A) (e : A) (op' : B → B → B) (e' : B) → R e e'
    → ((a x : A) (b y : B) → R a b → R x y → R (op a x) (op' b y))
    → (n : ℕ) {f : ℕ → A} {g : ℕ → B} → ((i : ℕ) → i < n → R (f i) (g i)) → R (over op e n f) (over op' e' n g)
unfolding over
over_related R op e op' e' u c zero h = u
over_related R op e op' e' u c (suc n) h = c _ _ _ _ (h 0 (omega arith)) (over_related R op e op' e' u c n (λ i l. h (suc i) (omega arith)))

pub over_ext : {A : Type 0} (op : A → A → A) (e : A) (n : ℕ) {f g : ℕ → A} → ((i : ℕ) → i < n → f i ≡ g i) → over op e n f ≡ over op e n g
over_ext op e n h = over_related ◌≡◌ op e op e refl (λ a x b y p q. ap₂ op p q) n h

pub over_cut : {A : Type 0} (op : A → A → A) (e : A) → ((a b c : A) → op (op a b) c ≡ op a (op b c)) → ((a : A) → op e a ≡ a)
    → (m n : ℕ) (f : ℕ → A) → over op e (m + n) f ≡ op (over op e m f) (over op e n (λ i. f (m + i)))
unfolding over
over_cut op e assoc unit zero n f = simp zero-add (sym (unit _))
over_cut op e assoc unit (suc m) n f = simp suc-add (ap (op (f 0)) (over_cut op e assoc unit m n (λ i. f (suc i))) ∙ sym (assoc _ _ _))

-- for an operation that is commutative too
module _ {A : Type 0} (op : A → A → A) (e : A) (assoc : (a b c : A) → op (op a b) c ≡ op a (op b c)) (comm : (a b : A) → op a b ≡ op b a) (unit : (a : A) → op e a ≡ a) where
  pub middle : (a b c d : A) → op (op a b) (op c d) ≡ op (op a c) (op b d)
  middle a b c d = assoc a b (op c d) ∙ ap (op a) (sym (assoc b c d) ∙ ap (λ x. op x d) (comm b c) ∙ assoc c b d) ∙ sym (assoc a c (op b d))

  pub over_add : (n : ℕ) (f g : ℕ → A) → over op e n (λ i. op (f i) (g i)) ≡ op (over op e n f) (over op e n g)
  unfolding over
  over_add zero f g = sym (unit e)
  over_add (suc n) f g = ap (op (op (f 0) (g 0))) (over_add n (λ i. f (suc i)) (λ i. g (suc i))) ∙ middle _ _ _ _

pub Σ-add : (n : ℕ) (f g : ℕ → ℕ) → Σ n (λ i. f i + g i) ≡ Σ n f + Σ n g
Σ-add = over_add ◌+◌ 0 add_assoc add_comm zero-add

pub Σ-mul : (n : ℕ) (f : ℕ → ℕ) (c : ℕ) → Σ n (λ i. f i * c) ≡ Σ n f * c
unfolding over
Σ-mul zero f c = omega arith
Σ-mul (suc n) f c = omega (arith, Σ-mul n (λ i. f (suc i)) c)

pub Σ-const : (n c : ℕ) → Σ n (λ i. c) ≡ n * c
unfolding over
Σ-const zero c = omega arith
Σ-const (suc n) c = omega (arith, Σ-const n c)

pub Σ-cut : (m n : ℕ) (f : ℕ → ℕ) → Σ (m + n) f ≡ Σ m f + Σ n (λ i. f (m + i))
Σ-cut = over_cut ◌+◌ 0 add_assoc zero-add

-- one of the terms alone
pub Σ-one : (n j : ℕ) (f : ℕ → ℕ) → j < n → Σ n (λ i. f i * indicator (eqb i j)) ≡ f j
unfolding over
Σ-one zero j f h = omega arith
Σ-one (suc n) zero f h = ap₂ ◌+◌ (mul-one (f 0)) (over_ext ◌+◌ 0 n {f = λ i. f (suc i) * indicator (eqb (suc i) 0)} {g = λ _. 0} (λ i l. simp (eqb-suc-zero, mul-zero)) ∙ Σ-const n 0) ∙ omega arith
Σ-one (suc n) (suc j) f h =
    ap₂ ◌+◌ (simp (eqb-zero-suc, mul-zero)) (over_ext ◌+◌ 0 n {f = λ i. f (suc i) * indicator (eqb (suc i) (suc j))} {g = λ i. f (suc i) * indicator (eqb i j)} (λ i l. simp eqb-suc-suc) ∙ Σ-one n j (λ i. f (suc i)) (omega arith)) ∙ zero-add _

-- of the numbers below n one is j
pub count_one : (n j : ℕ) → j < n → count n (λ i. eqb i j) ≡ 1
count_one n j h = over_ext _ _ n (λ i l. omega arith) ∙ Σ-one n j (λ i. 1) h

-- k periods of b numbers each
pub Σ-periodic : (b k : ℕ) (f g : ℕ → ℕ) → ((q i : ℕ) → i < b → f (q * b + i) ≡ g i) → Σ (k * b) f ≡ k * Σ b g
unfolding over
Σ-periodic b zero f g h = simp zero-mul
Σ-periodic b (suc k) f g h = rw (suc-mul, Σ-cut (k * b) b f) (omega (arith, Σ-periodic b k f g h, over_ext ◌+◌ 0 b (λ i l. h k i l)))

pub Σ-mono : (n : ℕ) {f g : ℕ → ℕ} → ((i : ℕ) → i < n → f i ≤ g i) → Σ n f ≤ Σ n g
Σ-mono n h = over_related ◌≤◌ ◌+◌ 0 ◌+◌ 0 (omega arith) (λ a x b y p q. omega arith) n h

-- a term is at most the sum
pub Σ-term : (n i : ℕ) (f : ℕ → ℕ) → i < n → f i ≤ Σ n f
unfolding over
Σ-term zero i f l = absurd (omega arith)
Σ-term (suc n) zero f l = omega arith
Σ-term (suc n) (suc i) f l = omega (arith, Σ-term n i (λ k. f (suc k)) (omega arith))

-- ---- tests

pub indicator_le : (t : Bool) → indicator t ≤ 1
indicator_le true = omega arith
indicator_le false = omega arith

-- a list is longer by one where a test passes
pub length_cond : {A : Type 0} (t : Bool) (x : A) (xs : List A) → length (cond t (x ∷ xs) xs) ≡ indicator t + length xs
length_cond true x xs = omega arith
length_cond false x xs = omega arith

-- ---- over a list

pub total_map : {A B : Type 0} (f : A → B) (g : B → ℕ) (xs : List A) → total (map g (map f xs)) ≡ total (map (λ x. g (f x)) xs)
unfolding total
total_map f g [] = refl
total_map f g (x ∷ xs) = ap (λ t. g (f x) + t) (total_map f g xs)

pub total_mul : {A : Type 0} (f : A → ℕ) (c : ℕ) (xs : List A) → total (map (λ x. f x * c) xs) ≡ total (map f xs) * c
unfolding total
total_mul f c [] = omega arith
total_mul f c (x ∷ xs) = omega (arith, total_mul f c xs)

pub total_add : {A : Type 0} (f g : A → ℕ) (xs : List A) → total (map (λ x. f x + g x) xs) ≡ total (map f xs) + total (map g xs)
unfolding total
total_add f g [] = refl
total_add f g (x ∷ xs) = omega (arith, total_add f g xs)

-- a list cut at k
pub total_cut : {A : Type 0} (f : A → ℕ) (k : ℕ) (xs : List A) → total (map f (take k xs)) + total (map f (drop k xs)) ≡ total (map f xs)
unfolding total
total_cut f zero xs = omega arith
total_cut f (suc k) [] = refl
total_cut f (suc k) (x ∷ xs) = omega (arith, total_cut f k xs)

-- a list's sum as a sum over its indices
pub Σ-map : {A : Type 0} (f : A → ℕ) (d : A) (xs : List A) → Σ (length xs) (λ i. f (get_or xs i d)) ≡ total (map f xs)
unfolding over total
Σ-map f d [] = refl
Σ-map f d (x ∷ xs) = ap (λ t. f x + t) (Σ-map f d xs)

-- an element's part of the sum
pub map_le : {A : Type 0} (f : A → ℕ) (d : A) (xs : List A) (i : ℕ) → i < length xs → f (get_or xs i d) ≤ total (map f xs)
map_le f d xs i l = rw (Σ-map f d xs) at (Σ-term (length xs) i (λ j. f (get_or xs j d)) l)

-- ---- by a key

cond_one : (n k x : ℕ) → k < n → Σ n (λ j. cond (eqb k j) x 0) ≡ x
unfolding over
cond_one zero k x h = omega arith
cond_one (suc n) zero x h = ap (λ t. x + t) (over_ext ◌+◌ 0 n {f = λ j. cond (eqb zero (suc j)) x 0} {g = λ _. 0} (λ i l. rw (eqb-zero-suc i)) ∙ Σ-const n 0) ∙ omega arith
cond_one (suc n) (suc k) x h = ap₂ ◌+◌ (rw (eqb-suc-zero k)) (over_ext ◌+◌ 0 n {f = λ i. cond (eqb (suc k) (suc i)) x 0} {g = λ i. cond (eqb k i) x 0} (λ i l. rw (eqb-suc-suc k i)) ∙ cond_one n k x (omega arith)) ∙ zero-add x

-- every key below n: the sums by key make up the whole
pub Σ-total_by : {A : Type 0} (key value : A → ℕ) (d : A) (n : ℕ) (xs : List A) → ((i : ℕ) → i < length xs → key (get_or xs i d) < n)
    → Σ n (λ k. total_by key value k xs) ≡ total (map value xs)
unfolding total total_by
Σ-total_by key value d n [] h = Σ-const n 0 ∙ omega arith
Σ-total_by key value d n (x ∷ xs) h =
    Σ-add n (λ k. value_by key value k x) (λ k. total_by key value k xs)
    ∙ ap₂ ◌+◌ (cond_one n (key x) (value x) (h 0 (omega arith))) (Σ-total_by key value d n xs (λ i l. h (suc i) (omega arith)))

-- a sum by key as the sum of a list
pub total_by_map : {A : Type 0} (key value : A → ℕ) (k : ℕ) (xs : List A) → total_by key value k xs ≡ total (map (value_by key value k) xs)
unfolding total total_by
total_by_map key value k [] = refl
total_by_map key value k (x ∷ xs) = ap (λ t. value_by key value k x + t) (total_by_map key value k xs)

module _ {A : Type 0} (key : A → ℕ) (k : ℕ) where
  -- no value with the key, no sum
  pub total_by_none : (v : A → ℕ) (xs : List A) → All (λ x. key x ≡ k → v x ≡ 0) xs → total_by key v k xs ≡ 0
  unfolding total_by
  total_by_none v [] h = refl
  total_by_none v (x ∷ xs) h = go (eqb (key x) k) refl (total_by_none v xs (λ y m. h y (Memᴰ.tail m)))
    where
      go : (t : Bool) → eqb (key x) k ≡ t → total_by key v k xs ≡ 0 → cond t (v x) 0 + total_by key v k xs ≡ 0
      go true e r = omega (arith, h x (Memᴰ.head refl) (eqb-true (key x) k e))
      go false e r = omega arith

  -- values that are at most two others together
  pub total_by_sum : (u v w : A → ℕ) → ((x : A) → u x ≤ v x + w x) → (xs : List A) → total_by key u k xs ≤ total_by key v k xs + total_by key w k xs
  unfolding total_by
  total_by_sum u v w h [] = omega arith
  total_by_sum u v w h (x ∷ xs) = go (eqb (key x) k) (total_by_sum u v w h xs)
    where
      go : (t : Bool) → total_by key u k xs ≤ total_by key v k xs + total_by key w k xs
          → cond t (u x) 0 + total_by key u k xs ≤ (cond t (v x) 0 + total_by key v k xs) + (cond t (w x) 0 + total_by key w k xs)
      go true r = omega (arith, h x)
      go false r = omega arith

  pub total_by_le : (u v : A → ℕ) → ((x : A) → u x ≤ v x) → (xs : List A) → total_by key u k xs ≤ total_by key v k xs
  total_by_le u v h xs = omega (arith, total_by_sum u v (λ _. 0) (λ x. omega (arith, h x)) xs, total_by_none (λ _. 0) xs (λ x m e. refl))
