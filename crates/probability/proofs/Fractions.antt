-- Laws of fractions. A sum is compared over one common denominator, `q ≈ n // S`, so that what is left is an equation of numerators.
use Prim.Native.Nat.{ℕ, zero, suc, ◌+◌, ◌*◌, ◌<◌}
use mathlib.Core.Path.{◌≡◌, refl, sym, ap, ap₂}
use mathlib.Core.List.{List, [], ◌∷◌, ◌++◌, map, Memᴰ}
use native.Mathlib.Nat.{mul-pos, mul-zero, zero-lt-suc, eq_of_mul-eq-mul_right, mul-le-mul_right, le_of_mul-le-mul_right}
use native.Mathlib.Omega.{arith}
use lib.Dec.{eqb, eqb-suc-zero, eqb-zero-suc, eqb-suc-suc}
use Rattle.probability.specs.Sum.{over, Σ, indicator}
use Rattle.probability.proofs.Sums.{over_related, over_ext, over_cut, over_add, Σ-const}
use Rattle.probability.specs.Fraction.{Fraction, ◌//◌, ◌⊕◌, ◌⊗◌, ◌≈◌, ◌≲◌, sum, sum_over}

pub pos_left : (a b : ℕ) → 0 < a * b → 0 < a
pos_left zero b h = omega arith
pos_left (suc a) b h = zero-lt-suc a

pub pos_right : (a b : ℕ) → 0 < a * b → 0 < b
pos_right a b h = pos_left b a (omega arith)

-- ---- equal and at most

pub ≈-refl : {q : Fraction} → 0 < q.den → q ≈ q
≈-refl p = record { cross = refl; left = p; right = p }

pub ≈-sym : {q r : Fraction} → q ≈ r → r ≈ q
≈-sym h = record { cross = sym h.cross; left = h.right; right = h.left }

pub ≈-trans : {q r s : Fraction} → q ≈ r → r ≈ s → q ≈ s
≈-trans {q} {r} {s} h k = record {
  cross = eq_of_mul-eq-mul_right r.den h.right _ _ (omega (arith, ap (λ t. t * s.den) h.cross, ap (λ t. t * q.den) k.cross));
  left = h.left;
  right = k.right;
}

-- what equals a fraction is at most what that is at most
pub ≈-≲ : {q r s : Fraction} → q ≈ r → r ≲ s → q ≲ s
≈-≲ {q} {r} {s} h k = record {
  cross = le_of_mul-le-mul_right {k = r.den} (omega (arith, ap (λ t. t * s.den) h.cross, mul-le-mul_right q.den k.cross)) h.right;
  left = h.left;
  right = k.right;
}

-- what is at most a fraction is at most what equals that
pub ≲-≈ : {q r s : Fraction} → q ≲ r → r ≈ s → q ≲ s
≲-≈ {q} {r} {s} h k = record {
  cross = le_of_mul-le-mul_right {k = r.den} (omega (arith, mul-le-mul_right s.den h.cross, ap (λ t. t * q.den) k.cross)) h.right;
  left = h.left;
  right = k.right;
}

-- the numerator by an equation
pub ≈-num : {q : Fraction} {n m S : ℕ} → n ≡ m → q ≈ n // S → q ≈ m // S
≈-num e h = rw e at h

-- a common factor c goes out
pub cancel : {q : Fraction} {n S : ℕ} (c : ℕ) → q ≈ (n * c) // (S * c) → q ≈ n // S
cancel {q} {n} {S} c h = record {
  cross = eq_of_mul-eq-mul_right c (pos_left c S (omega (arith, h.right))) _ _ (omega (arith, h.cross));
  left = h.left;
  right = pos_left S c h.right;
}

-- ---- sum and product

-- sums can be regrouped as they stand, with no common factor left over
pub ⊕-assoc : (q r s : Fraction) → (q ⊕ r) ⊕ s ≡ q ⊕ (r ⊕ s)
⊕-assoc q r s = ap₂ ◌//◌ (omega arith) (omega arith)

pub ⊕-zero : (q : Fraction) → 0 // 1 ⊕ q ≡ q
⊕-zero q = ap₂ ◌//◌ (omega arith) (omega arith)

pub ⊕-comm : (q r : Fraction) → q ⊕ r ≡ r ⊕ q
⊕-comm q r = ap₂ ◌//◌ (omega arith) (omega arith)

pub ⊗-assoc : (q r s : Fraction) → (q ⊗ r) ⊗ s ≡ q ⊗ (r ⊗ s)
⊗-assoc q r s = ap₂ ◌//◌ (omega arith) (omega arith)

pub ⊗-comm : (q r : Fraction) → q ⊗ r ≡ r ⊗ q
⊗-comm q r = ap₂ ◌//◌ (omega arith) (omega arith)

pub ⊗-swap : (q r s : Fraction) → r ⊗ (q ⊗ s) ≡ q ⊗ (r ⊗ s)
⊗-swap q r s = ap₂ ◌//◌ (omega arith) (omega arith)

pub ⊕-≈ : {q r s t : Fraction} → q ≈ s → r ≈ t → q ⊕ r ≈ s ⊕ t
⊕-≈ {q} {r} {s} {t} h k = record {
  cross = omega (arith, ap (λ x. x * (r.den * t.den)) h.cross, ap (λ x. x * (q.den * s.den)) k.cross);
  left = mul-pos h.left k.left;
  right = mul-pos h.right k.right;
}

pub ⊗-≈ : {q r s t : Fraction} → q ≈ s → r ≈ t → q ⊗ r ≈ s ⊗ t
⊗-≈ {q} {r} {s} {t} h k = record {
  cross = omega (arith, ap₂ ◌*◌ h.cross k.cross);
  left = mul-pos h.left k.left;
  right = mul-pos h.right k.right;
}

pub ⊗-distrib : (q r s : Fraction) → 0 < q.den → 0 < r.den → 0 < s.den → q ⊗ r ⊕ q ⊗ s ≈ q ⊗ (r ⊕ s)
⊗-distrib q r s a b c = record { cross = omega arith; left = mul-pos (mul-pos a b) (mul-pos a c); right = mul-pos a (mul-pos b c) }

pub ⊗-zero : (q : Fraction) → 0 < q.den → 0 // 1 ⊗ q ≈ 0 // 1
⊗-zero q p = record { cross = omega arith; left = omega arith; right = omega arith }

-- over one denominator numerators are added
pub ⊕-same : {q r : Fraction} {n m S : ℕ} → q ≈ n // S → r ≈ m // S → q ⊕ r ≈ (n + m) // S
⊕-same {q} {r} h k = record {
  cross = omega (arith, ap (λ t. t * r.den) h.cross, ap (λ t. t * q.den) k.cross);
  left = mul-pos h.left k.left;
  right = h.right;
}

pub ⊕-≲ : {q r : Fraction} {n m S : ℕ} → q ≲ n // S → r ≲ m // S → q ⊕ r ≲ (n + m) // S
⊕-≲ {q} {r} h k = record {
  cross = omega (arith, mul-le-mul_right r.den h.cross, mul-le-mul_right q.den k.cross);
  left = mul-pos h.left k.left;
  right = h.right;
}

-- o of N, and of that the part x of o * S
pub ⊗-part : {q : Fraction} {x : ℕ} (o N S : ℕ) → 0 < N → q ≈ x // (o * S) → o // N ⊗ q ≈ x // (N * S)
⊗-part o N S p h = record {
  cross = omega (arith, ap (λ t. t * N) h.cross);
  left = mul-pos p h.left;
  right = mul-pos p (pos_left S o (omega (arith, h.right)));
}

-- ---- sums over a list

pub sum_over-++ : {A : Type 0} (xs ys : List A) (f : A → Fraction) → sum_over (xs ++ ys) f ≡ sum_over xs f ⊕ sum_over ys f
unfolding sum_over
sum_over-++ [] ys f = sym (⊕-zero (sum_over ys f))
sum_over-++ (x ∷ xs) ys f = rw (sum_over-++ xs ys f) (sym (⊕-assoc (f x) (sum_over xs f) (sum_over ys f)))

pub sum_over_map : {A B : Type 0} (h : A → B) (xs : List A) (f : B → Fraction) → sum_over (map h xs) f ≡ sum_over xs (λ x. f (h x))
unfolding sum_over
sum_over_map h [] f = refl
sum_over_map h (x ∷ xs) f = ap (λ s. f (h x) ⊕ s) (sum_over_map h xs f)

pub sum_over_ext : {A : Type 0} (xs : List A) {f g : A → Fraction} → ((x : A) → Memᴰ x xs → f x ≡ g x) → sum_over xs f ≡ sum_over xs g
unfolding sum_over
sum_over_ext [] h = refl
sum_over_ext (x ∷ xs) h = ap₂ ◌⊕◌ (h x (Memᴰ.head refl)) (sum_over_ext xs (λ y d. h y (Memᴰ.tail d)))

-- a part of each is that part of the sum
pub sum_over_part : {A : Type 0} (q : Fraction) → 0 < q.den → (f g : A → Fraction) → ((x : A) → g x ≡ q ⊗ f x) → (xs : List A) → 0 < (sum_over xs f).den
    → sum_over xs g ≈ q ⊗ sum_over xs f
unfolding sum_over
sum_over_part q p f g e [] d = record { cross = omega arith; left = omega arith; right = omega arith }
sum_over_part q p f g e (x ∷ xs) d =
    let a = pos_left (f x).den (sum_over xs f).den d in
    let b = pos_right (f x).den (sum_over xs f).den d in
    rw (e x) (≈-trans (⊕-≈ (≈-refl (mul-pos p a)) (sum_over_part q p f g e xs b)) (⊗-distrib q (f x) (sum_over xs f) p a b))

-- ---- sums over a range

pub sum_cut : (m n : ℕ) (f : ℕ → Fraction) → sum (m + n) f ≡ sum m f ⊕ sum n (λ i. f (m + i))
sum_cut = over_cut ◌⊕◌ (0 // 1) ⊕-assoc ⊕-zero

pub sum-≈ : (n : ℕ) {f g : ℕ → Fraction} → ((i : ℕ) → i < n → f i ≈ g i) → sum n f ≈ sum n g
sum-≈ n h = over_related ◌≈◌ ◌⊕◌ (0 // 1) ◌⊕◌ (0 // 1) (≈-refl (omega arith)) (λ q s r t a b. ⊕-≈ a b) n h

pub sum_den : (n : ℕ) (f : ℕ → Fraction) → ((i : ℕ) → i < n → 0 < (f i).den) → 0 < (sum n f).den
sum_den n f h = (sum-≈ n {g = f} (λ i l. ≈-refl (h i l))).left

pub sum_add : (n : ℕ) (f g : ℕ → Fraction) → sum n (λ i. f i ⊕ g i) ≡ sum n f ⊕ sum n g
sum_add = over_add ◌⊕◌ (0 // 1) ⊕-assoc ⊕-comm ⊕-zero

pub sum_const : (n : ℕ) (q : Fraction) → 0 < q.den → sum n (λ i. q) ≈ n // 1 ⊗ q
unfolding over
sum_const zero q p = record { cross = omega arith; left = omega arith; right = omega arith }
sum_const (suc n) q p =
    let r = sum_const n q p in
    record { cross = omega (arith, ap (λ t. t * q.den) r.cross); left = mul-pos p r.left; right = omega arith }

-- a part of each is that part of the sum
pub sum_part : (n : ℕ) (q : Fraction) (g : ℕ → Fraction) → 0 < q.den → ((i : ℕ) → i < n → 0 < (g i).den) → sum n (λ i. q ⊗ g i) ≈ q ⊗ sum n g
unfolding over
sum_part zero q g p h = record { cross = omega arith; left = omega arith; right = omega arith }
sum_part (suc n) q g p h =
    let r = sum_part n q (λ i. g (suc i)) p (λ i l. h (suc i) (omega arith)) in let k = h 0 (omega arith) in
    ≈-trans (⊕-≈ (≈-refl (mul-pos p k)) r) (⊗-distrib q (g 0) (sum n (λ i. g (suc i))) p k (pos_right q.den _ r.right))

-- over one denominator
pub sum_same : (n : ℕ) {f : ℕ → Fraction} {a : ℕ → ℕ} {S : ℕ} → 0 < S → ((i : ℕ) → i < n → f i ≈ a i // S) → sum n f ≈ Σ n a // S
sum_same n {S = S} p h =
    over_related (λ q m. q ≈ m // S) ◌⊕◌ (0 // 1) ◌+◌ 0 (record { cross = omega arith; left = omega arith; right = p }) (λ q r a b. ⊕-same) n h

pub sum-≲ : (n : ℕ) {f : ℕ → Fraction} {a : ℕ → ℕ} {S : ℕ} → 0 < S → ((i : ℕ) → i < n → f i ≲ a i // S) → sum n f ≲ Σ n a // S
sum-≲ n {S = S} p h =
    over_related (λ q m. q ≲ m // S) ◌⊕◌ (0 // 1) ◌+◌ 0 (record { cross = omega arith; left = omega arith; right = p }) (λ q r a b. ⊕-≲) n h

pub sum_zero : (n : ℕ) (g : ℕ → Fraction) → ((i : ℕ) → i < n → 0 < (g i).den) → sum n (λ i. 0 // 1 ⊗ g i) ≈ 0 // 1
sum_zero n g x = rw (Σ-const n 0, mul-zero) at (sum_same n {a = λ i. 0} {S = 1} (omega arith) (λ i l. ⊗-zero (g i) (x i l)))

-- the same on the right
pub sum_right : (n : ℕ) (q : Fraction) (g : ℕ → Fraction) → 0 < q.den → ((i : ℕ) → i < n → 0 < (g i).den) → sum n (λ i. g i ⊗ q) ≈ sum n g ⊗ q
sum_right n q g p h = rw (over_ext ◌⊕◌ (0 // 1) n {g = λ i. q ⊗ g i} (λ i l. ⊗-comm (g i) q), ⊗-comm (sum n g) q) (sum_part n q g p h)

-- a mixture of mixtures: sums of sums, each weighted, sorted by the inner index

-- one of the terms alone
pub sum_one : (m c : ℕ) (g : ℕ → Fraction) → c < m → ((i : ℕ) → i < m → 0 < (g i).den) → sum m (λ i. indicator (eqb c i) // 1 ⊗ g i) ≈ g c
unfolding over
sum_one zero c g l x = absurd (omega arith)
sum_one (suc m) zero g l x =
    ≈-trans (⊕-≈ {t = 0 // 1} (≈-refl (omega (arith, x 0 (omega arith)))) (rw (over_ext ◌⊕◌ (0 // 1) m {g = λ i. 0 // 1 ⊗ g (suc i)} (λ i k. ap (λ t. indicator t // 1 ⊗ g (suc i)) (eqb-zero-suc i))) (sum_zero m (λ i. g (suc i)) (λ i k. x (suc i) (omega arith)))))
    (record { cross = omega arith; left = omega (arith, x 0 (omega arith)); right = x 0 (omega arith) })
sum_one (suc m) (suc c) g l x =
    let r = sum_one m c (λ i. g (suc i)) (omega arith) (λ i k. x (suc i) (omega arith)) in
    let z : 0 // 1 ⊗ g 0 ≈ 0 // 1 = ⊗-zero (g 0) (x 0 (omega arith)) in
    rw (eqb-suc-zero c, over_ext ◌⊕◌ (0 // 1) m {g = λ i. indicator (eqb c i) // 1 ⊗ g (suc i)} (λ i k. ap (λ t. indicator t // 1 ⊗ g (suc i)) (eqb-suc-suc c i)))
    (≈-trans (⊕-≈ z r) (rw (⊕-zero (g (suc c))) (≈-refl r.right)))
