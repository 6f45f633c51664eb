-- The code's multipliers give the weights of the round, or let each lift grow by its whole new measure; and all of it has room.
use Prim.Native.Nat.{ℕ, ◌+◌, ◌*◌, ◌^◌, ◌≤◌, ◌<◌}
use mathlib.Core.Path.{◌≡◌, refl, ap, fun_ext, ◌∙◌}
use mathlib.Core.Bool.{Bool, true, false, cond}
use mathlib.Core.List.{List, [], ◌∷◌, map, map-map}
use native.Mathlib.Omega.{arith}
use lib.ListN.{length}
use lib.Dec.{eqb}
use borrow.Author.Tests.{eqb-true}
use Rattle.probability.specs.Sum.{total}
use Rattle.probability.proofs.Sums.{total_map, total_mul}
use Rattle.round.specs.Round.{S, U, measure_from, D, old_weight, new_weight, weights, growth, G, whole_sums, WellPosed}
use Rattle.round.specs.Choice.{draw_place, fresh, first_odds}
use Rattle.round.specs.Rows.{Bounded}
use Rattle.weights.specs.Scaling.{HasSums, ProductsFit, scaled, scale_of, wholly, WeightsFit, Balanced}
use Rattle.round.specs.declared.Donors.{Donors}
use Rattle.round.specs.declared.Donors.TheVariants.{None, One, Two}
use Rattle.round.specs.declared.Lift.{Lift}
use Rattle.round.specs.declared.Weight.{Weight}
use Rattle.weights.specs.declared.Scale.{Scale}
use Rattle.weights.specs.declared.Sums.{Sums}
use Rattle.round.proofs.WeightSums.{old_sum, new_sum, came, weight_bound}

-- ---- the multipliers of a round

-- a donor is 1 or 2 or neither
multiplied : (s : Scale) (l : Lift) → (scaled s l).old ≡ measure_from 1 l * s.first + measure_from 2 l * s.second
multiplied s l = go l.donor (eqb l.donor 1) refl (eqb l.donor 2) refl
  where
    go : (d : ℕ) (p : Bool) → eqb d 1 ≡ p → (q : Bool) → eqb d 2 ≡ q
        → l.old * cond p s.first (cond q s.second 0) ≡ cond p l.old 0 * s.first + cond q l.old 0 * s.second
    go d true e q f = rw (← f, eqb-true d 1 e) (omega arith)
    go d false e true f = omega arith
    go d false e false f = omega arith

old_scaled : (ds : Donors) (ls : List Lift) (l : Lift) → old_weight ds ls l ≡ (scaled (scale_of ds ls) l).old
unfolding old_weight
old_scaled None ls l = omega (arith, multiplied (scale_of None ls) l)
old_scaled (One T) ls l = omega (arith, multiplied (scale_of (One T) ls) l)
old_scaled (Two T₁ T₂) ls l = omega (arith, multiplied (scale_of (Two T₁ T₂) ls) l)

pub weights_scaled : (ds : Donors) (ls : List Lift) → weights ds ls ≡ map (scaled (scale_of ds ls)) ls
unfolding weights new_weight
weights_scaled ds ls =
    ap (λ f. map f ls) (fun_ext (λ l. ap (λ m. record { old = m; new = l.new * D ds ls }) (old_scaled ds ls l)))

-- a sum over the weights
scaled_sum : (ds : Donors) (ls : List Lift) (f : Weight → ℕ) → total (map f (weights ds ls)) ≡ total (map (λ l. f (scaled (scale_of ds ls) l)) ls)
scaled_sum ds ls f = rw (weights_scaled ds ls) (total_map (scaled (scale_of ds ls)) f ls)

scale_balanced : (ds : Donors) {ls : List Lift} {s : Scale} → s ≡ scale_of ds ls → Balanced s ls
scale_balanced ds {ls} e =
    rw e (record { sums = omega (arith, scaled_sum ds ls (λ w. w.old), scaled_sum ds ls (λ w. w.new), old_sum ds ls, new_sum ds ls) })

scale_room : {ds : Donors} {ls : List Lift} {s : Scale} → s ≡ scale_of ds ls → WellPosed ds ls → Bounded ds ls → WeightsFit s ls
scale_room {ds} {ls} e f b =
    let w = weight_bound ds ls f b in
    rw e (record { olds = omega (arith, scaled_sum ds ls (λ w. w.old), old_sum ds ls); news = omega (arith, scaled_sum ds ls (λ w. w.new), new_sum ds ls) })

-- ---- the whole new measures: no old measure counts

whole_old : (ls : List Lift) → total (map (λ l. (scaled wholly l).old) ls) ≡ 0
unfolding total
whole_old [] = refl
whole_old (l ∷ ls) = omega (arith, multiplied wholly l, whole_old ls)

whole_growth : (ls : List Lift) → map growth (map (scaled wholly) ls) ≡ map (λ l. l.new) ls
whole_growth ls = map-map growth (scaled wholly) ls ∙ ap (λ f. map f ls) (fun_ext (λ l. omega (arith, multiplied wholly l)))

whole_G : (ls : List Lift) → G (map (scaled wholly) ls) ≡ S ls
unfolding G S
whole_G ls = ap total (whole_growth ls)

pub whole_room : {ds : Donors} {ls : List Lift} → Bounded ds ls → WeightsFit wholly ls
unfolding S
whole_room {ls = ls} b = record { olds = omega (arith, whole_old ls); news = omega (arith, total_mul (λ l. l.new) 1 ls, b.new) }

pub whole_positive : {ds : Donors} {ls : List Lift} → WellPosed ds ls → 1 ≤ G (map (scaled wholly) ls)
whole_positive {ls = ls} f = rw (whole_G ls) f.positive

-- ---- the sums of the code

-- the multipliers from the sums of a round, by the document's cases
pub scales : {n x y o m u v p : ℕ} → n ≡ m → x ≡ u → y ≡ v → o ≡ p → ◌≡◌ {A = Scale} (record { new = n; first = x; second = y; odds = o }) (record { new = m; first = u; second = v; odds = p })
scales e f g h = cc

module _ {ls : List Lift} (t : Sums) where
  pub scale_one : {T y o : ℕ} → HasSums (One T) ls t → y ≡ 0 → o ≡ 0 → record { new = t.first; first = t.new; second = y; odds = o } ≡ scale_of (One T) ls
  unfolding D old_weight first_odds
  scale_one u g h = rw (u.new, u.first (omega arith)) (scales refl (omega arith) (omega arith) h)

  pub scale_two : {T₁ T₂ : ℕ} → HasSums (Two T₁ T₂) ls t
      → record { new = t.first * T₂ + t.second * T₁; first = T₂ * t.new; second = T₁ * t.new; odds = t.second * T₁ } ≡ scale_of (Two T₁ T₂) ls
  unfolding D old_weight first_odds
  scale_two u = rw (u.new, u.first (omega arith), u.second (omega arith)) (scales refl (omega arith) (omega arith) refl)

pub scale_none : {n x y o : ℕ} (ls : List Lift) → n ≡ 0 → x ≡ 0 → y ≡ 0 → o ≡ 0 → record { new = n; first = x; second = y; odds = o } ≡ scale_of None ls
unfolding D old_weight first_odds
scale_none ls = scales

-- the products of the multipliers have room
pub multipliable : (ds : Donors) {ls : List Lift} (t : Sums) → HasSums ds ls t → WellPosed ds ls → Bounded ds ls → ProductsFit ds t
multipliable None t e f b = tt
multipliable (One T) t e f b = tt
multipliable (Two T₁ T₂) {ls} t e f b =
    let u = came 1 (T₁ ∷ T₂ ∷ []) ls f.donate b.old in
    (b.old, (omega (arith, e.new, b.new), omega (arith, e.first (omega arith), u 0 (omega arith)), omega (arith, e.second (omega arith), u 1 (omega arith))))

-- what came from a donor has room
pub came_room : {ds : Donors} {ls : List Lift} → WellPosed ds ls → Bounded ds ls → (i : ℕ) → i < length (whole_sums ds) → U (1 + i) ls ≤ 2 ^ 61
came_room {ds} {ls} f b i l = omega (arith, came 1 (whole_sums ds) ls f.donate b.old i l)

-- the sums of a round, from S as the sum of the whole growths
pub summed : (ds : Donors) (ls : List Lift) {n u v : ℕ} → n ≡ G (map (scaled wholly) ls) → (1 ≤ length (whole_sums ds) → u ≡ U 1 ls) → (2 ≤ length (whole_sums ds) → v ≡ U 2 ls)
    → HasSums ds ls (record { new = n; first = u; second = v })
summed ds ls w x y = record { new = w ∙ whole_G ls; first = x; second = y }

-- ---- the choice by the multipliers

-- all that an update asks
pub updatable : {ds : Donors} {ls : List Lift} {s : Scale} → s ≡ scale_of ds ls → WellPosed ds ls → Bounded ds ls → WeightsFit s ls × Balanced s ls
updatable {ds} e f b = (scale_room e f b, scale_balanced ds e)

pub fresh_scaled : (ls : List Lift) → fresh ls ≡ draw_place (G (map (scaled wholly) ls)) (map growth (map (scaled wholly) ls)) false
fresh_scaled ls = rw (whole_G, whole_growth)
