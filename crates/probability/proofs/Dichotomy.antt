-- Kish's dichotomies: two independent branches, each present with the mass X / Z and then taking place i with a i / D, join to a branch of the same kind.
use Prim.Native.Nat.{ℕ, ◌+◌, ◌*◌, ◌-◌, ◌≤◌, ◌<◌}
use mathlib.Core.Path.{◌≡◌, refl, ap, fun_ext}
use mathlib.Core.Bool.{Bool}
use native.Mathlib.Nat.{mul-pos}
use native.Mathlib.Omega.{arith}
use lib.Dec.{ltb, eqb}
use Rattle.probability.specs.Fraction.{Fraction, ◌//◌, ◌⊕◌, ◌⊗◌, ◌≈◌, sum}
use Rattle.probability.specs.Plan.{Plan, Every, mass, mean}
use Rattle.probability.specs.Branch.{Branch, absent, present, join, update_or, TakenBelow, taken_mass, presence, absence, Known, DichotomyTheorem}
use Rattle.probability.proofs.Fractions.{≈-refl, ≈-sym, ≈-trans, ⊕-≈, ⊕-same, ⊗-≈, ⊗-assoc, sum-≈, sum_part, sum_zero, sum_den}
use Rattle.probability.proofs.Averages.{av_right, av_mix, independent, pairs, image}
use Rattle.probability.proofs.Masses.{every_cond, mass_after, mass_den, mass_cut, mean_classes, every_map}

-- of W values, those that one branch has beside another: all where the other is absent, x where it is present
beside : (W x : ℕ) → Branch → ℕ
beside W x absent = W
beside W x (present p) = x

pub taken_den : (n i : ℕ) (s : Branch) → TakenBelow n s → 0 < (taken_mass i s).den
unfolding taken_mass
taken_den n i absent f = omega arith
taken_den n i (present p) f = mass_den (λ i. i < n) (λ a. eqb a i) p f

-- nothing to join
pub join_absent : (b l : ℕ) (s : Branch) → join b l s absent ≡ s
unfolding join
join_absent b l absent = refl
join_absent b l (present p) = refl

join_placed : (W L n : ℕ) → 0 < W → (s t : Branch) → TakenBelow n s → TakenBelow n t → TakenBelow n (join W L s t)
unfolding join Every
join_placed W L n p absent t f g = g
join_placed W L n p (present x) absent f g = f
join_placed W L n p (present x) (present y) f g = (p, λ v l. every_cond (λ i. i < n) (ltb v L) x y f g)

-- the joined branch's mass of a place is bilinear in both branches
taken_join : (W L i n : ℕ) → 0 < W → L ≤ W → (s t : Branch) → TakenBelow n s → TakenBelow n t → taken_mass i (join W L s t) ≈ taken_mass i s ⊗ beside W L t // W ⊕ beside W (W - L) s // W ⊗ taken_mass i t
unfolding taken_mass join beside
taken_join W L i n w l absent absent f g = record { cross = omega arith; left = omega arith; right = omega (arith, mul-pos w w) }
taken_join W L i n w l absent (present q) f g =
    let d = taken_den n i (present q) g in
    record { cross = omega arith; left = d; right = mul-pos (omega (arith, w)) (mul-pos w d) }
taken_join W L i n w l (present p) absent f g =
    let d = taken_den n i (present p) f in
    record { cross = omega arith; left = d; right = mul-pos (mul-pos d w) (omega (arith, w)) }
taken_join W L i n w l (present p) (present q) f g =
    let e : L + (W - L) ≡ W = omega arith in
    let r = mass_cut (λ a. eqb a i) L (W - L) p q (omega arith) (taken_den n i (present p) f) (taken_den n i (present q) g) in
    rw e at r

-- ---- two branches that are known, joined

beside_mixed : (W x : ℕ) → 0 < W → (t : Branch) → beside W x t // W ≈ presence t // 1 ⊗ x // W ⊕ absence t // 1 ⊗ W // W
unfolding beside presence absence
beside_mixed W x w absent = record { cross = omega arith; left = w; right = omega (arith, mul-pos w w) }
beside_mixed W x w (present p) = record { cross = omega arith; left = w; right = omega (arith, mul-pos w w) }

join_absence : (W L : ℕ) (s t : Branch) → absence (join W L s t) // 1 ≈ absence s // 1 ⊗ absence t // 1
unfolding join absence
join_absence W L absent absent = ≈-refl (omega arith)
join_absence W L absent (present q) = ≈-refl (omega arith)
join_absence W L (present p) absent = ≈-refl (omega arith)
join_absence W L (present p) (present q) = ≈-refl (omega arith)

join_presence : (W L : ℕ) (s t : Branch) → presence (join W L s t) // 1 ≈ presence s // 1 ⊗ 1 // 1 ⊕ absence s // 1 ⊗ presence t // 1
unfolding join presence absence
join_presence W L absent absent = record { cross = omega arith; left = omega arith; right = omega arith }
join_presence W L absent (present q) = record { cross = omega arith; left = omega arith; right = omega arith }
join_presence W L (present p) absent = record { cross = omega arith; left = omega arith; right = omega arith }
join_presence W L (present p) (present q) = record { cross = omega arith; left = omega arith; right = omega arith }

module _ {A : Type 0} {P : A → Type 0} {M : (A → Fraction) → Fraction} {s : A → Branch} {n X Y Z D : ℕ} {a : ℕ → ℕ} (k : Known P M s n X Y Z D a) where
  -- the values beside it, on average
  mixed : (W x : ℕ) → 0 < W → M (λ c. beside W x (s c) // W) ≈ (X * x + Y * W) // (Z * W)
  mixed W x w =
      let av = k.averages in
      ≈-trans (av.same _ (λ c. presence (s c) // 1 ⊗ x // W ⊕ absence (s c) // 1 ⊗ W // W) (λ c _. beside_mixed W x w (s c)))
      (≈-trans (av.add (λ c. presence (s c) // 1 ⊗ x // W) (λ c. absence (s c) // 1 ⊗ W // W) (λ _ _. omega (arith, w)) (λ _ _. omega (arith, w)))
      (⊕-same (≈-trans (av_right av (λ c. presence (s c) // 1) (x // W) w (λ _ _. omega arith)) (⊗-≈ k.some (≈-refl w)))
      (≈-trans (av_right av (λ c. absence (s c) // 1) (W // W) w (λ _ _. omega arith)) (⊗-≈ k.none (≈-refl w)))))

-- the second balance follows from the first
left_over : (a b W X D u v : ℕ) → a + b ≡ W * X → D ≡ u + v → a * D ≡ X * u * W → b * D ≡ X * v * W
left_over a b W X D u v e f h = omega (arith, h, ap (λ t. t * D) e, ap (λ t. X * W * t) f)

all_values : (X₁ Y₁ X₂ Y₂ Z₂ X L H W : ℕ) → L + H ≡ W → X₂ + Y₂ ≡ Z₂ → X ≡ X₁ * Z₂ + Y₁ * X₂ → X₁ * (X₂ * L + Y₂ * W) + X₂ * (X₁ * H + Y₁ * W) ≡ W * X
all_values X₁ Y₁ X₂ Y₂ Z₂ X L H W e z x = rw (x, ← z, ← e) (omega arith)

other : (X₁ Y₁ X₂ Y₂ Z₂ D₁ D₂ c d X D L H W : ℕ) → L + H ≡ W → X₂ + Y₂ ≡ Z₂ → X ≡ X₁ * Z₂ + Y₁ * X₂ → D ≡ c * D₁ + d * D₂
    → X₁ * (X₂ * L + Y₂ * W) * D ≡ X * (c * D₁) * W → X₂ * (X₁ * H + Y₁ * W) * D ≡ X * (d * D₂) * W
other X₁ Y₁ X₂ Y₂ Z₂ D₁ D₂ c d X D L H W e z x y h = left_over _ _ W X D _ _ (all_values X₁ Y₁ X₂ Y₂ Z₂ X L H W e z x) y h

-- the law: two independent branches join to one, if the L lower values of W balance them (formula (5))
module _ {A B : Type 0} {P : A → Type 0} {Q : B → Type 0} {M : (A → Fraction) → Fraction} {N : (B → Fraction) → Fraction} {s : A → Branch} {t : B → Branch}
    {n X₁ Y₁ Z₁ D₁ X₂ Y₂ Z₂ D₂ : ℕ} {a b : ℕ → ℕ} (k : Known P M s n X₁ Y₁ Z₁ D₁ a) (l : Known Q N t n X₂ Y₂ Z₂ D₂ b)
    (W L c d X D : ℕ) (w : 0 < W) (le : L ≤ W) (p : 0 < D) (x : X ≡ X₁ * Z₂ + Y₁ * X₂) (y : D ≡ c * D₁ + d * D₂)
    (balance : X₁ * (X₂ * L + Y₂ * W) * D ≡ X * (c * D₁) * W) where
  abbrev joined : A × B → Branch
  joined z = join W L (s z.0) (t z.1)

  first_part : (i : ℕ) → (X₁ * a i) // (Z₁ * D₁) ⊗ (X₂ * L + Y₂ * W) // (Z₂ * W) ≈ (X * (c * a i)) // (Z₁ * Z₂ * D)
  first_part i = record {
    cross = omega (arith, ap (λ r. r * (a i * (Z₁ * Z₂))) balance);
    left = mul-pos (mul-pos k.positive k.divisor) (mul-pos l.positive w);
    right = mul-pos (mul-pos k.positive l.positive) p;
  }

  second_part : (i : ℕ) → (X₁ * (W - L) + Y₁ * W) // (Z₁ * W) ⊗ (X₂ * b i) // (Z₂ * D₂) ≈ (X * (d * b i)) // (Z₁ * Z₂ * D)
  second_part i = record {
    cross = omega (arith, ap (λ r. r * (b i * (Z₁ * Z₂))) (other X₁ Y₁ X₂ Y₂ Z₂ D₁ D₂ c d X D L (W - L) W (omega arith) l.whole x y balance));
    left = mul-pos (mul-pos k.positive w) (mul-pos l.positive l.divisor);
    right = mul-pos (mul-pos k.positive l.positive) p;
  }

  place : (i : ℕ) → i < n → M (λ g. N (λ h. taken_mass i (join W L (s g) (t h)))) ≈ (X * (c * a i + d * b i)) // (Z₁ * Z₂ * D)
  place i u =
      let av = k.averages in let aw = l.averages in let pp = pairs av aw in
      let e : X * (c * a i) + X * (d * b i) ≡ X * (c * a i + d * b i) = omega arith in
      rw e at
      (≈-trans (pp.same (λ z. taken_mass i (joined z)) (λ z. taken_mass i (s z.0) ⊗ beside W L (t z.1) // W ⊕ beside W (W - L) (s z.0) // W ⊗ taken_mass i (t z.1))
      (λ z f. taken_join W L i n w le (s z.0) (t z.1) (k.placed z.0 f.0) (l.placed z.1 f.1)))
      (≈-trans (pp.add (λ z. taken_mass i (s z.0) ⊗ beside W L (t z.1) // W) (λ z. beside W (W - L) (s z.0) // W ⊗ taken_mass i (t z.1))
      (λ z f. mul-pos (taken_den n i (s z.0) (k.placed z.0 f.0)) w) (λ z f. mul-pos w (taken_den n i (t z.1) (l.placed z.1 f.1))))
      (⊕-same
      (≈-trans (independent av aw (λ g. taken_mass i (s g)) (λ h. beside W L (t h) // W) (λ g f. taken_den n i (s g) (k.placed g f)) (λ _ _. w))
      (≈-trans (⊗-≈ (k.place i u) (mixed l W L w)) (first_part i)))
      (≈-trans (independent av aw (λ g. beside W (W - L) (s g) // W) (λ h. taken_mass i (t h)) (λ _ _. w) (λ h f. taken_den n i (t h) (l.placed h f)))
      (≈-trans (⊗-≈ (mixed k W (W - L) w) (l.place i u)) (second_part i))))))

  some : M (λ g. N (λ h. presence (join W L (s g) (t h)) // 1)) ≈ X // (Z₁ * Z₂)
  some =
      let av = k.averages in let aw = l.averages in let pp = pairs av aw in
      ≈-trans (pp.same (λ z. presence (joined z) // 1) (λ z. presence (s z.0) // 1 ⊗ 1 // 1 ⊕ absence (s z.0) // 1 ⊗ presence (t z.1) // 1) (λ z f. join_presence W L (s z.0) (t z.1)))
      (≈-trans (pp.add (λ z. presence (s z.0) // 1 ⊗ 1 // 1) (λ z. absence (s z.0) // 1 ⊗ presence (t z.1) // 1) (λ _ _. omega arith) (λ _ _. omega arith))
      (≈-trans (⊕-≈
      (≈-trans (independent av aw (λ g. presence (s g) // 1) (λ h. 1 // 1) (λ _ _. omega arith) (λ _ _. omega arith)) (⊗-≈ k.some aw.whole))
      (≈-trans (independent av aw (λ g. absence (s g) // 1) (λ h. presence (t h) // 1) (λ _ _. omega arith) (λ _ _. omega arith)) (⊗-≈ k.none l.some)))
      (rw x (record {
        cross = omega arith;
        left = mul-pos (omega (arith, k.positive)) (mul-pos k.positive l.positive);
        right = mul-pos k.positive l.positive;
      }))))

  none : M (λ g. N (λ h. absence (join W L (s g) (t h)) // 1)) ≈ (Y₁ * Y₂) // (Z₁ * Z₂)
  none =
      let av = k.averages in let aw = l.averages in
      ≈-trans ((pairs av aw).same (λ z. absence (joined z) // 1) (λ z. absence (s z.0) // 1 ⊗ absence (t z.1) // 1) (λ z f. join_absence W L (s z.0) (t z.1)))
      (≈-trans (independent av aw (λ g. absence (s g) // 1) (λ h. absence (t h) // 1) (λ _ _. omega arith) (λ _ _. omega arith)) (⊗-≈ k.none l.none))

  pub dichotomy : Known (λ z. P z.0 × Q z.1) (λ f. M (λ g. N (λ h. f (g, h)))) joined n X (Y₁ * Y₂) (Z₁ * Z₂) D (λ i. c * a i + d * b i)
  dichotomy = record {
    averages = pairs k.averages l.averages;
    placed = λ z f. join_placed W L n w (s z.0) (t z.1) (k.placed z.0 f.0) (l.placed z.1 f.1);
    whole = rw (x, ← k.whole, ← l.whole) (omega arith);
    positive = mul-pos k.positive l.positive;
    divisor = p;
    place = place;
    some = some;
    none = none;
  }

pub dichotomy_theorem : DichotomyTheorem
dichotomy_theorem = record { joined = dichotomy }

-- ---- what is known, said otherwise

module _ {A : Type 0} {P : A → Type 0} {M : (A → Fraction) → Fraction} {s : A → Branch} {n X Y Z D : ℕ} {a : ℕ → ℕ} where
  -- equal masses and weights
  pub relabel : {X' : ℕ} {b : ℕ → ℕ} → X ≡ X' → ((i : ℕ) → a i ≡ b i) → Known P M s n X Y Z D a → Known P M s n X' Y Z D b
  relabel e f k = rw e at (rw (fun_ext f) at k)

  -- given that the branch is present, place i is taken with a i / D
  pub prelim : Known P M s n X Y Z D a → {S : ℕ} → 0 < S → (i : ℕ) → i < n → M (λ x. taken_mass i (s x)) ≈ M (λ x. presence (s x) // 1) ⊗ (a i * S) // (D * S)
  prelim k {S} q i l =
      let d = mul-pos k.divisor q in
      ≈-trans (k.place i l) (≈-trans (record { cross = omega arith; left = mul-pos k.positive k.divisor; right = mul-pos k.positive d }) (⊗-≈ (≈-sym k.some) (≈-refl d)))

  -- the same branch by other names of what is averaged over
  pub known_image : {B : Type 0} (t : B → Branch) (g : A → B) → ((x : A) → t (g x) ≡ s x) → Known P M s n X Y Z D a → Known (λ y. TakenBelow n (t y)) (λ f. M (λ x. f (g x))) t n X Y Z D a
  known_image t g e k =
      let av = k.averages in
      record {
        averages = image (λ y. TakenBelow n (t y)) g (λ x p. rw (e x) (k.placed x p)) av;
        placed = λ y p. p;
        whole = k.whole;
        positive = k.positive;
        divisor = k.divisor;
        place = λ i l. ≈-trans (av.same _ (λ x. taken_mass i (s x)) (λ x p. rw (e x) (≈-refl (taken_den n i (s x) (k.placed x p))))) (k.place i l);
        some = ≈-trans (av.same _ (λ x. presence (s x) // 1) (λ x p. rw (e x) (≈-refl (omega arith)))) k.some;
        none = ≈-trans (av.same _ (λ x. absence (s x) // 1) (λ x p. rw (e x) (≈-refl (omega arith)))) k.none;
      }

-- ---- what follows: an update of the unit that is taken, or a fresh draw

module _ {B : Type 0} (t : B → Bool) (update : ℕ → Plan B) (fresh : Plan B) (n : ℕ) (u : (i : ℕ) → i < n → 0 < (mass t (update i)).den) (v : 0 < (mass t fresh).den) where
  update_mix : (s : Branch) → TakenBelow n s → mass t (update_or update fresh s) ≈ sum n (λ i. taken_mass i s ⊗ mass t (update i)) ⊕ absence s // 1 ⊗ mass t fresh
  unfolding update_or taken_mass absence
  update_mix absent f =
      ≈-trans (record { cross = omega arith; left = v; right = omega (arith, v) })
      (⊕-≈ {q = 0 // 1} {r = 1 // 1 ⊗ mass t fresh} (≈-sym (sum_zero n (λ i. mass t (update i)) u)) (≈-refl (omega (arith, v))))
  update_mix (present p) f =
      let r : mean (λ a. mass t (update a)) p ≈ sum n (λ i. mass (λ a. eqb a i) p ⊗ mass t (update i))
      = mean_classes (λ i. i) (λ i. mass t (update i)) (λ i. mass t (update i)) n p u
      (every_map {P = λ i. i < n} {Q = λ i. (i < n) × (mass t (update i) ≈ mass t (update i))} (λ i l. (l, ≈-refl (u i l))) p f) in
      rw (mass_after t p update)
      (≈-trans r (record { cross = omega arith; left = r.right; right = mul-pos r.right (omega (arith, v)) }))

  -- where a fresh draw gives the share b / S, and the updates of the places, each with its part of D, give it too, so does the branch
  module _ {A : Type 0} {P : A → Type 0} {M : (A → Fraction) → Fraction} {s : A → Branch} {X Y Z D : ℕ} {a : ℕ → ℕ} (k : Known P M s n X Y Z D a)
      (b S : ℕ) (q : 0 < S) (updated : sum n (λ i. (a i * S) // (D * S) ⊗ mass t (update i)) ≈ (b * D) // (D * S)) (fair : mass t fresh ≈ b // S) where
    taken_sum : sum n (λ i. M (λ x. taken_mass i (s x)) ⊗ mass t (update i)) ≈ (X * b) // (Z * S)
    taken_sum =
        let part : (i : ℕ) → i < n → M (λ x. taken_mass i (s x)) ⊗ mass t (update i) ≈ X // Z ⊗ ((a i * S) // (D * S) ⊗ mass t (update i))
        = λ i l. rw (← ⊗-assoc (X // Z) ((a i * S) // (D * S)) (mass t (update i)))
        (⊗-≈ (≈-trans (prelim k q i l) (⊗-≈ k.some (≈-refl (mul-pos k.divisor q)))) (≈-refl (u i l))) in
        ≈-trans (sum-≈ n part)
        (≈-trans (sum_part n (X // Z) (λ i. (a i * S) // (D * S) ⊗ mass t (update i)) k.positive (λ i l. mul-pos (mul-pos k.divisor q) (u i l)))
        (≈-trans (⊗-≈ (≈-refl k.positive) updated) (record {
          cross = omega arith;
          left = mul-pos k.positive (mul-pos k.divisor q);
          right = mul-pos k.positive q;
        })))

    pub branch_shares : M (λ x. mass t (update_or update fresh (s x))) ≈ b // S
    branch_shares =
        let av = k.averages in
        let den : (x : A) → P x → 0 < (sum n (λ i. taken_mass i (s x) ⊗ mass t (update i))).den = λ x f. sum_den n _ (λ i l. mul-pos (taken_den n i (s x) (k.placed x f)) (u i l)) in
        ≈-trans (av.same _ (λ x. sum n (λ i. taken_mass i (s x) ⊗ mass t (update i)) ⊕ absence (s x) // 1 ⊗ mass t fresh) (λ x f. update_mix (s x) (k.placed x f)))
        (≈-trans (av.add (λ x. sum n (λ i. taken_mass i (s x) ⊗ mass t (update i))) (λ x. absence (s x) // 1 ⊗ mass t fresh) den (λ x _. omega (arith, v)))
        (≈-trans (⊕-same (≈-trans (av_mix av n (λ x i. taken_mass i (s x)) (λ i. mass t (update i)) (λ x f i l. taken_den n i (s x) (k.placed x f)) u) taken_sum)
        (≈-trans (av_right av (λ x. absence (s x) // 1) (mass t fresh) v (λ _ _. omega arith)) (⊗-≈ k.none fair)))
        (record { cross = omega (arith, ap (λ z. z * (b * S)) k.whole); left = mul-pos k.positive q; right = q })))
