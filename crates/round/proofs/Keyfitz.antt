-- Keyfitz's update on any two lists of weights with equal sums: of a unit's old weight the smaller of both weights stays with it, and its loss goes to the others by their growths.
use Prim.Native.Nat.{ℕ, zero, suc, ◌+◌, ◌*◌, ◌-◌, ◌≤◌, ◌<◌}
use mathlib.Core.Path.{◌≡◌, refl, sym, ap, ap₂, ◌∙◌}
use mathlib.Core.Bool.{Bool, true, false, cond}
use mathlib.Core.List.{List, map}
use native.Mathlib.Nat.{mul-pos, min-eq_left, sub-eq-zero_of_le, zero-mul, add-zero, add-mul, zero-sub, suc-sub-suc, mul-zero}
use native.Mathlib.Omega.{arith}
use lib.ListN.{length, get_or, get_or-map, length-map}
use lib.Dec.{leb, ltb, eqb}
use borrow.Author.Tests.{leb-true, leb-false, ltb-true, eq-eqb}
use Rattle.probability.specs.Sum.{Σ, total, indicator}
use Rattle.probability.specs.Fraction.{◌//◌, ◌⊗◌, ◌≈◌, sum}
use Rattle.probability.specs.Interval.{pick}
use Rattle.probability.specs.Plan.{Plan, done, draw, Every, Drawable, mass, mean}
use Rattle.probability.proofs.Tests.{eqb_comm}
use Rattle.probability.proofs.Sums.{over_ext, Σ-add, Σ-mul, Σ-one, Σ-map, map_le}
use Rattle.probability.proofs.Intervals.{pick_some}
use Rattle.probability.proofs.Fractions.{≈-refl, ≈-trans, ⊕-same, ⊗-≈, ⊗-comm, ⊗-part, cancel, sum_same}
use Rattle.probability.proofs.Masses.{mass_cut, mass_hits}
use Rattle.round.specs.Round.{weight_at, growth, G}
use Rattle.round.specs.declared.Weight.{Weight}
use Rattle.round.specs.Choice.{selection, draw_place, stay_or, keyfitz}
use Rattle.round.specs.Share.{chooses, smaller, SameSum, Exact, Staying}
use Rattle.round.proofs.WeightSums.{loss, losses, dropped_G}

abbrev pub none : Weight
none = record { old = 0; new = 0 }

-- ---- one unit

-- a draw below o: for n of its values one plan, for the others another
mass_split : {A : Type 0} (t : A → Bool) (p₁ p₂ : Plan A) {x y S : ℕ} (o n : ℕ) → 0 < S → 0 < o → n ≤ o → mass t p₁ ≈ x // S → mass t p₂ ≈ y // S
    → mass t (draw o (λ r. cond (ltb r n) p₁ p₂)) ≈ (n * x + (o - n) * y) // (o * S)
mass_split t p₁ p₂ {x} {y} {S} o n p q l h k =
    let e : n + (o - n) ≡ o = omega arith in
    ≈-trans (rw e at (mass_cut t n (o - n) p₁ p₂ (omega arith) h.left k.left))
    (⊕-same (rw (⊗-comm (mass t p₁) (n // o)) (⊗-≈ {q = n // o} (≈-refl q) h)) (⊗-≈ {q = (o - n) // o} (≈-refl q) k))

-- of the old weight, of N, the smaller weight stays and the loss moves
mass_stay_or : {A : Type 0} (t : A → Bool) (stay move : Plan A) {x y : ℕ} (w : Weight) (N S : ℕ) → 0 < N → 0 < S → mass t stay ≈ x // S
    → (w.new < w.old → mass t move ≈ y // S) → w.old // N ⊗ mass t (stay_or w stay move) ≈ (smaller w * x + loss w * y) // (N * S)
unfolding stay_or
mass_stay_or t stay move {x} {y} w N S p q h k = go (leb w.old w.new) refl
  where
    go : (b : Bool) → leb w.old w.new ≡ b
        → w.old // N ⊗ mass t (cond b stay (draw w.old (λ r. cond (ltb r w.new) stay move))) ≈ (smaller w * x + loss w * y) // (N * S)
    go true e =
        let l = leb-true w.old w.new e in
        rw (min-eq_left l, sub-eq-zero_of_le l, zero-mul, add-zero) (⊗-≈ (≈-refl {q = w.old // N} p) h)
    go false e =
        let l = leb-false w.old w.new e in let m : smaller w ≡ w.new = omega arith in
        rw m (⊗-part w.old N S p (mass_split t stay move w.old w.new q (omega arith) (omega arith) h (k l)))

-- what of the old weight of unit i comes to unit j, times H
abbrev pub passes : List Weight → ℕ → ℕ → ℕ → ℕ
passes ws H j i = smaller (weight_at ws i) * (indicator (eqb i j) * H) + loss (weight_at ws i) * growth (weight_at ws j)

pub unit : (ws : List Weight) (i j N H : ℕ) → j < length ws → 0 < N → 0 < H → ((weight_at ws i).new < (weight_at ws i).old → G ws ≡ H)
    → (weight_at ws i).old // N ⊗ mass (chooses j) (keyfitz ws i) ≈ passes ws H j i // (N * H)
unfolding keyfitz mass mean draw_place G
unit ws i j N H u p q h =
    mass_stay_or (chooses j) (done (selection i false)) _ (weight_at ws i) N H p q (record { cross = omega arith; left = omega arith; right = q })
    (λ l. let g : get_or (map growth ws) j 0 ≡ growth (weight_at ws j) = get_or-map growth ws j none in
    rw (← h l) (rw g at (mass_hits (chooses j) (map growth ws) (λ a. selection a true) j (rw length-map u) (omega (arith, h l)) (λ a. refl))))

-- ---- all units together

-- a common denominator: G, or 1 where G is 0
pub unit_of : (G : ℕ) → (H : ℕ) × (0 < H) × (0 < G → G ≡ H)
unit_of zero = (1, omega arith, omega arith)
unit_of (suc G) = (suc G, omega arith, λ _. refl)

times : (G H g : ℕ) → g ≤ G → (0 < G → G ≡ H) → G * g ≡ g * H
times G H zero l h = omega arith
times G H (suc g) l h = rw (← h (omega arith)) (omega arith)

-- what comes to unit j of all units, times H: what stays with it, and its part of what each gives, if as much is given as taken
received : (ws : List Weight) (stay : ℕ → ℕ) (given taken : Weight → ℕ) (H : ℕ) → (0 < total (map taken ws) → total (map taken ws) ≡ H)
    → total (map given ws) ≡ total (map taken ws) → (j : ℕ) → j < length ws
    → Σ (length ws) (λ i. stay i * (indicator (eqb i j) * H) + given (weight_at ws i) * taken (weight_at ws j))
    ≡ (stay j + taken (weight_at ws j)) * H
received ws stay given taken H h b j l =
    Σ-add (length ws) (λ i. stay i * (indicator (eqb i j) * H)) (λ i. given (weight_at ws i) * taken (weight_at ws j))
    ∙ ap₂ ◌+◌
    (over_ext ◌+◌ 0 (length ws) {g = λ i. stay i * H * indicator (eqb i j)} (λ i _. omega arith) ∙ Σ-one (length ws) j (λ i. stay i * H) l)
    (Σ-mul (length ws) (λ i. given (weight_at ws i)) (taken (weight_at ws j)) ∙ ap (λ t. t * taken (weight_at ws j)) (Σ-map given none ws ∙ b)
    ∙ times (total (map taken ws)) H (taken (weight_at ws j)) (map_le taken none ws j l) h)
    ∙ sym (add-mul (stay j) (taken (weight_at ws j)) H)

module _ (ws : List Weight) (H : ℕ) (h : 0 < G ws → G ws ≡ H) (b : total (map loss ws) ≡ G ws) where
  -- to a unit comes its new weight
  pub arrives : (j : ℕ) → j < length ws → Σ (length ws) (passes ws H j) ≡ (weight_at ws j).new * H
  unfolding G
  arrives j l = received ws (λ i. smaller (weight_at ws i)) loss growth H h b j l ∙ ap (λ t. t * H) (omega arith)

  -- from a unit goes its old weight: the same with losses and growths exchanged
  pub leaves : (i : ℕ) → i < length ws → Σ (length ws) (λ j. passes ws H j i) ≡ (weight_at ws i).old * H
  unfolding G
  leaves i l =
      over_ext ◌+◌ 0 (length ws) {g = λ j. smaller (weight_at ws i) * (indicator (eqb j i) * H) + growth (weight_at ws j) * loss (weight_at ws i)}
      (λ j _. rw (eqb_comm i j) (omega arith))
      ∙ received ws (λ _. smaller (weight_at ws i)) growth loss H (λ p. b ∙ h (rw b at p)) (sym b) i l ∙ ap (λ t. t * H) (omega arith)

either : (a b : ℕ) → (a - b) * (b - a) ≡ 0
either zero b = simp (zero-sub, zero-mul)
either (suc a) zero = simp (zero-sub, mul-zero)
either (suc a) (suc b) = simp suc-sub-suc (either a b)

-- with its own unit stays the smaller weight
pub own : (ws : List Weight) (H : ℕ) → Σ (length ws) (λ i. passes ws H i i) ≡ total (map smaller ws) * H
own ws H =
    over_ext ◌+◌ 0 (length ws) {g = λ i. smaller (weight_at ws i) * H} (λ i _. rw (eq-eqb i i refl, either (weight_at ws i).old (weight_at ws i).new) (omega arith))
    ∙ Σ-mul (length ws) (λ i. smaller (weight_at ws i)) H ∙ ap (λ t. t * H) (Σ-map smaller none ws)

-- a preliminary unit stays where it doesn't shrink, or where it keeps some weight; and moves only where it shrinks
every_stay_or : {A : Type 0} (P : A → Type 0) (w : Weight) (stay move : Plan A) → (w.old ≤ w.new → Every P stay) → (0 < w.new → Every P stay)
    → (w.new < w.old → Every P move) → Every P (stay_or w stay move)
unfolding Every stay_or
every_stay_or P w stay move f g h = go (leb w.old w.new) refl
  where
    drawn : (r : ℕ) (b : Bool) → ltb r w.new ≡ b → w.new < w.old → Every P (cond b stay move)
    drawn r true e l = g (omega (arith, ltb-true r w.new e))
    drawn r false e l = h l

    go : (b : Bool) → leb w.old w.new ≡ b → Every P (cond b stay (draw w.old (λ r. cond (ltb r w.new) stay move)))
    go true e = f (leb-true w.old w.new e)
    go false e = let l = leb-false w.old w.new e in (omega arith, λ r _. drawn r (ltb r w.new) refl l)

module _ {ws : List Weight} {N : ℕ} (q : SameSum ws N) where
  common : (i : ℕ) (H : ℕ) → i < length ws → (0 < G ws → G ws ≡ H) → (weight_at ws i).new < (weight_at ws i).old → G ws ≡ H
  common i H l h m = h (dropped_G ws i (q.olds ∙ sym q.news) l m)

  -- every unit that may be preliminary has its update
  drawable : (i : ℕ) → i < length ws → Drawable (keyfitz ws i)
  unfolding Every keyfitz draw_place
  drawable i l =
      every_stay_or (λ _. Unit {0}) (weight_at ws i) (done (selection i false)) _ (λ _. tt) (λ _. tt) (λ m. (dropped_G ws i (q.olds ∙ sym q.news) l m, λ _ _. tt))

  -- from a unit of old weight above 0 the update leads to one of new weight above 0
  pub arrival : (i : ℕ) → 0 < (weight_at ws i).old → i < length ws → Every (λ s. 0 < (weight_at ws s.place).new) (keyfitz ws i)
  unfolding Every keyfitz draw_place G
  arrival i o l =
      every_stay_or (λ s. 0 < (weight_at ws s.place).new) (weight_at ws i) (done (selection i false)) _ (λ m. omega arith) (λ m. m)
      (λ m. (dropped_G ws i (q.olds ∙ sym q.news) l m, λ v k. grown (pick (map growth ws) v) (pick_some (map growth ws) v k)))
    where
      grown : (j : ℕ) → 0 < get_or (map growth ws) j 0 → 0 < (weight_at ws j).new
      grown j h = let g : get_or (map growth ws) j 0 ≡ growth (weight_at ws j) = get_or-map growth ws j none in omega arith

  -- each unit has its new weight
  updated : (j : ℕ) → j < length ws → sum (length ws) (λ i. (weight_at ws i).old // N ⊗ mass (chooses j) (keyfitz ws i)) ≈ (weight_at ws j).new // N
  updated j l =
      let (H, p, h) = unit_of (G ws) in
      cancel H (rw (arrives ws H h (losses ws (q.olds ∙ sym q.news)) j l) at
      (sum_same (length ws) (mul-pos q.positive p) (λ i k. unit ws i j N H l q.positive p (common i H k h))))

  -- the smaller weights stay
  stays : sum (length ws) (λ i. (weight_at ws i).old // N ⊗ mass (chooses i) (keyfitz ws i)) ≈ total (map smaller ws) // N
  stays =
      let (H, p, h) = unit_of (G ws) in
      cancel H (rw (own ws H) at (sum_same (length ws) (mul-pos q.positive p) (λ i k. unit ws i i N H k q.positive p (common i H k h))))

pub keyfitz_exact : Exact keyfitz
keyfitz_exact = record { drawable = drawable; exact = updated }

pub keyfitz_staying : Staying keyfitz
keyfitz_staying = record { stays = stays }
