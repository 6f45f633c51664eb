-- The laws of a round's weights, draws and outcomes, put together.
use Prim.Native.Nat.{ℕ, zero, suc, ◌+◌, ◌*◌, ◌≤◌, ◌<◌}
use mathlib.Core.Path.{◌≡◌, refl, sym, ◌∙◌}
use mathlib.Core.Bool.{Bool, true, false, cond}
use mathlib.Core.List.{List, [], ◌∷◌, map}
use native.Mathlib.Nat.{mul-pos}
use native.Mathlib.Omega.{arith}
use lib.ListN.{length, get_or-map}
use lib.Dec.{leb, ltb}
use borrow.Author.Tests.{leb-true, leb-false}
use Rattle.probability.proofs.Sums.{map_le}
use Rattle.std.proofs.Props.{props}
use Rattle.probability.specs.Interval.{pick}
use Rattle.probability.specs.Initial.{Initial, here, elsewhere}
use Rattle.probability.specs.Plan.{Plan, done, draw, bind, Every, Drawable, DrawsAtMost}
use Rattle.probability.specs.Branch.{Branch, absent, present, join, update_or, EveryTaken, TakenBelow}
use Rattle.probability.proofs.Intervals.{pick_some}
use Rattle.probability.proofs.Fractions.{pos_left}
use Rattle.probability.proofs.Masses.{every_map, every_after, every_cond}
use Rattle.round.specs.Round.{lift_at, S, D, old_weight, new_weight, weights, weight_at, whole_sums, AreDonors, WellPosed}
use Rattle.round.specs.Choice.{draw_place, fresh, single, initial_at, first_odds, preliminary_by, preliminary, stay_or, keyfitz, plan_by, plan, outcome}
use Rattle.round.specs.Rows.{lift_of_measures, SumsBounded, Bounded, initials, IfHere, Inside, Stands, Callable}
use Rattle.round.specs.Law.{Fits64, Weighty, LawsTheorem}
use Rattle.round.specs.declared.Donors.{Donors}
use Rattle.round.specs.declared.Held.{Held}
use Rattle.round.specs.declared.Donors.TheVariants.{None, One, Two}
use Rattle.round.specs.declared.Lift.{Lift}
use Rattle.round.specs.declared.Weight.{Weight}
use Rattle.round.proofs.WeightSums.{old_sum, new_sum, losses, dropped_G, G_le, D_bound, weight_bound}
use Rattle.round.proofs.Keyfitz.{none, arrival, keyfitz_exact}
use Rattle.round.proofs.Preliminaries.{by_donors, knows}
use Rattle.round.proofs.Shares.{length_weights, same_sum, every_fresh, every_branch}

-- ---- outcomes

-- an outcome is 1, 2 or 3
pub outcome_between : (held dropped : Bool) → (1 ≤ outcome held dropped) × (outcome held dropped ≤ 3)
unfolding outcome
outcome_between true y = (omega arith, omega arith)
outcome_between false true = (omega arith, omega arith)
outcome_between false false = (omega arith, omega arith)

-- ---- at most three draws

within_more : {A : Type 0} (n : ℕ) (p : Plan A) → DrawsAtMost n p → DrawsAtMost (suc n) p
unfolding DrawsAtMost
within_more n (done a) w = tt
within_more zero (draw b k) w = absurd w
within_more (suc n) (draw b k) w = λ v l. within_more n (k v) (w v l)

within_cond : {A : Type 0} (n : ℕ) (b : Bool) (p q : Plan A) → DrawsAtMost n p → DrawsAtMost n q → DrawsAtMost n (cond b p q)
within_cond n true p q u w = u
within_cond n false p q u w = w

within_stay_or : {A : Type 0} (n : ℕ) (w : Weight) (stay move : Plan A) → DrawsAtMost n stay → DrawsAtMost n move → DrawsAtMost (suc n) (stay_or w stay move)
unfolding DrawsAtMost stay_or
within_stay_or n w stay move u v =
    within_cond (suc n) (leb w.old w.new) stay (draw w.old (λ r. cond (ltb r w.new) stay move)) (within_more n stay u)
    (λ r _. within_cond n (ltb r w.new) stay move u v)

within_keyfitz : (ws : List Weight) (i : ℕ) → DrawsAtMost 2 (keyfitz ws i)
unfolding DrawsAtMost keyfitz draw_place
within_keyfitz ws i = within_stay_or 1 (weight_at ws i) _ _ tt (λ q _. tt)

-- the preliminary lift takes at most one draw, and its update n + 1
within_join : {A : Type 0} (b o n : ℕ) (update : ℕ → Plan A) (fresh : Plan A) → ((i : ℕ) → DrawsAtMost (suc n) (update i)) → DrawsAtMost (suc n) fresh
    → (x y : Initial) → DrawsAtMost (suc (suc n)) (update_or update fresh (join b o (single x) (single y)))
unfolding DrawsAtMost update_or join single bind
within_join b o n update fresh u f elsewhere elsewhere = within_more (suc n) fresh f
within_join b o n update fresh u f elsewhere (here j) = within_more (suc n) (update j) (u j)
within_join b o n update fresh u f (here i) elsewhere = within_more (suc n) (update i) (u i)
within_join b o n update fresh u f (here i) (here j) = λ v l. go (ltb v o)
  where
    go : (t : Bool) → DrawsAtMost (suc n) (bind (cond t (done i) (done j)) update)
    go true = u i
    go false = u j

three : (ds : Donors) (ls : List Lift) (xs : List Initial) → DrawsAtMost 3 (plan ds ls xs)
unfolding DrawsAtMost plan_by preliminary_by draw_place
three ds ls xs = within_join (D ds ls) (first_odds ds ls) 1 (keyfitz (weights ds ls)) (fresh ls) (within_keyfitz (weights ds ls)) (λ v l. tt) (initial_at xs 0) (initial_at xs 1)

-- ---- every draw has a value

-- what holds of the lifts held here holds of the preliminary lift, and there is a bound to draw below where both are here
pub every_preliminary : (R : ℕ → Type 0) (b o : ℕ) (x y : Initial) → IfHere R x → IfHere R y → ((i j : ℕ) → x ≡ here i → y ≡ here j → 0 < b)
    → EveryTaken R (join b o (single x) (single y))
unfolding Every join single
every_preliminary R b o elsewhere elsewhere u v p = tt
every_preliminary R b o elsewhere (here j) u v p = v
every_preliminary R b o (here i) elsewhere u v p = u
every_preliminary R b o (here i) (here j) u v p = (p i j refl refl, λ a _. every_cond R (ltb a o) (done i) (done j) u v)

-- the held lift of a donor stands in the round; without that donor it is elsewhere
stands_at : (Ts : List ℕ) (xs : List Initial) (n : ℕ) → Stands Ts xs n → (k : ℕ) → Inside n (initial_at xs k) × (length Ts ≤ k → initial_at xs k ≡ elsewhere)
stands_at Ts [] n s k = (tt, λ _. refl)
stands_at [] (x ∷ xs) n s zero = (rw s.0 tt, λ _. s.0)
stands_at [] (x ∷ xs) n s (suc k) = let r = stands_at [] xs n s.1 k in (r.0, λ _. r.1 (omega arith))
stands_at (T ∷ Ts) (x ∷ xs) n s zero = (s.0, λ l. absurd (omega arith))
stands_at (T ∷ Ts) (x ∷ xs) n s (suc k) = let r = stands_at Ts xs n s.1 k in (r.0, λ l. r.1 (omega arith))

-- the held lifts of the first two donors, and none without a donor
pub stands_two : (Ts : List ℕ) (xs : List Initial) (n : ℕ) → Stands Ts xs n → Stands Ts (initial_at xs 0 ∷ initial_at xs 1 ∷ []) n
stands_two [] xs n s = ((stands_at [] xs n s 0).1 (omega arith), ((stands_at [] xs n s 1).1 (omega arith), tt))
stands_two (T ∷ []) xs n s = ((stands_at (T ∷ []) xs n s 0).0, ((stands_at (T ∷ []) xs n s 1).1 (omega arith), tt))
stands_two (T ∷ T' ∷ Ts) xs n s = ((stands_at (T ∷ T' ∷ Ts) xs n s 0).0, ((stands_at (T ∷ T' ∷ Ts) xs n s 1).0, tt))

module _ (ds : Donors) (ls : List Lift) (f : WellPosed ds ls) (xs : List Initial) (s : Stands (whole_sums ds) xs (length ls)) where
  -- where a held lift is here there is a donor
  pub donor_D : (k i : ℕ) → initial_at xs k ≡ here i → 0 < D ds ls
  donor_D k i e = go (leb 1 (length (whole_sums ds))) refl
    where
      go : (t : Bool) → leb 1 (length (whole_sums ds)) ≡ t → 0 < D ds ls
      go true q = (knows ds ls (leb-true 1 (length (whole_sums ds)) q) f.donate).known.divisor
      go false q =
          let none = (stands_at (whole_sums ds) xs (length ls) s k).1 (omega (arith, leb-false 1 (length (whole_sums ds)) q)) in
          absurd (cc)

  pub placed_preliminary : TakenBelow (length ls) (preliminary ds ls xs)
  unfolding preliminary_by
  placed_preliminary =
      every_preliminary (λ i. i < length ls) (D ds ls) (first_odds ds ls) (initial_at xs 0) (initial_at xs 1)
      (stands_at (whole_sums ds) xs (length ls) s 0).0 (stands_at (whole_sums ds) xs (length ls) s 1).0 (λ i j e _. donor_D 0 i e)

drawable : (ds : Donors) (ls : List Lift) → WellPosed ds ls → (xs : List Initial) → Stands (whole_sums ds) xs (length ls) → Drawable (plan ds ls xs)
unfolding plan_by preliminary_by single join update_or
drawable ds ls f xs =
    by_donors (λ ds. WellPosed ds ls → Stands (whole_sums ds) xs (length ls) → Drawable (plan ds ls xs))
    (λ f s. rw ((stands_at [] xs (length ls) s 0).1 (omega arith), (stands_at [] xs (length ls) s 1).1 (omega arith)) (every_fresh ls f.positive))
    (λ ds p f s. every_branch keyfitz keyfitz_exact ds ls f.positive (knows ds ls p f.donate) (preliminary ds ls xs) (placed_preliminary ds ls f xs s)) ds f

-- ---- a lift of new measure 0 is never chosen

-- a donor's lift of old measure above 0 has an old weight above 0
pub donor_weight : (ds : Donors) (ls : List Lift) → WellPosed ds ls → (k : ℕ) → 1 ≤ k → k ≤ length (whole_sums ds) → (m b : ℕ) → 0 < m
    → 0 < old_weight ds ls (lift_of_measures m k b)
unfolding old_weight
donor_weight None ls f k l h m b p = absurd (omega arith)
donor_weight (One T) ls f k l h m b p = let e : k ≡ 1 = omega arith in rw e (mul-pos p f.positive)
donor_weight (Two T₁ T₂) ls f (suc zero) l h m b p =
    mul-pos {m = m * T₂ + 0 * T₁} (let q : 0 < m * T₂ = mul-pos p (omega (arith, f.donate.1.0.some, f.donate.1.0.part)) in omega arith) f.positive
donor_weight (Two T₁ T₂) ls f (suc (suc zero)) l h m b p =
    mul-pos {m = 0 * T₂ + m * T₁} (let q : 0 < m * T₁ = mul-pos p (omega (arith, f.donate.0.some, f.donate.0.part)) in omega arith) f.positive
donor_weight (Two T₁ T₂) ls f (suc (suc (suc k))) l h m b p = absurd (omega arith)
donor_weight (Two T₁ T₂) ls f zero l h m b p = absurd (omega arith)

new_some : (ds : Donors) (ls : List Lift) (j : ℕ) → 0 < (weight_at (weights ds ls) j).new → 0 < (lift_at ls j).new
unfolding weights new_weight
new_some ds ls j h = go ls j h
  where
    go : (vs : List Lift) (j : ℕ) → 0 < (weight_at (map (λ l. record { old = old_weight ds ls l; new = l.new * D ds ls }) vs) j).new → 0 < (lift_at vs j).new
    go [] j h = absurd (omega arith)
    go (v ∷ vs) zero h = pos_left v.new (D ds ls) h
    go (v ∷ vs) (suc j) h = go vs j h

-- a weight above 0 stands at a place of the round
weight_in : (ws : List Weight) (i : ℕ) → 0 < (weight_at ws i).old → i < length ws
weight_in [] i h = absurd (omega arith)
weight_in (w ∷ ws) zero h = omega arith
weight_in (w ∷ ws) (suc i) h = omega (arith, weight_in ws i h)

module _ (ds : Donors) (ls : List Lift) (p : 0 < S ls) where
  -- with such a weight, D × S is above 0
  whole : (i : ℕ) → 0 < (weight_at (weights ds ls) i).old → 0 < D ds ls * S ls
  whole i h = omega (arith, map_le (λ w. w.old) none (weights ds ls) i (weight_in (weights ds ls) i h), old_sum ds ls)

  chosen_fresh : Every (λ s. 0 < (lift_at ls s.place).new) (fresh ls)
  unfolding Every draw_place S
  chosen_fresh = (p, λ q l. let e = get_or-map (λ x. x.new) ls (pick (map (λ x. x.new) ls) q) (record { old = 0; donor = 0; new = 0 }) in omega (arith, pick_some (map (λ x. x.new) ls) q l))

  chosen_update : (i : ℕ) → 0 < (weight_at (weights ds ls) i).old → Every (λ s. 0 < (lift_at ls s.place).new) (keyfitz (weights ds ls) i)
  chosen_update i h =
      every_map (λ s. new_some ds ls s.place) (keyfitz (weights ds ls) i) (arrival (same_sum ds ls (whole i h)) i h (weight_in (weights ds ls) i h))

  abbrev Weighs : ℕ → Type 0
  Weighs i = 0 < (weight_at (weights ds ls) i).old

  weighty_at : (xs : List Initial) → Weighty ds ls xs → (k : ℕ) → IfHere Weighs (initial_at xs k)
  weighty_at [] w k = tt
  weighty_at (x ∷ xs) w zero = w.0
  weighty_at (x ∷ xs) w (suc k) = weighty_at xs w.1 k

  chosen_branch : (s : Branch) → EveryTaken Weighs s → Every (λ s. 0 < (lift_at ls s.place).new) (update_or (keyfitz (weights ds ls)) (fresh ls) s)
  unfolding update_or
  chosen_branch absent w = chosen_fresh
  chosen_branch (present q) w = every_after Weighs (λ s. 0 < (lift_at ls s.place).new) q (keyfitz (weights ds ls)) w chosen_update

  chosen : (xs : List Initial) → Weighty ds ls xs → Every (λ s. 0 < (lift_at ls s.place).new) (plan ds ls xs)
  unfolding plan_by preliminary_by
  chosen xs w =
      let u = weighty_at xs w 0 in
      chosen_branch (preliminary ds ls xs) (every_preliminary Weighs (D ds ls) (first_odds ds ls) (initial_at xs 0) (initial_at xs 1) u (weighty_at xs w 1)
      (λ i j e _. pos_left (D ds ls) (S ls) (whole i (rw e at u))))

small : (ds : Donors) (ls : List Lift) → WellPosed ds ls → Bounded ds ls → Fits64 ds ls
small ds ls f b =
    let w = weight_bound ds ls f b in let ws = weights ds ls in
    record {
      scale = D_bound ds ls f.donate b.old;
      whole = w;
      growths = omega (arith, G_le ws, new_sum ds ls);
      old = λ i l. omega (arith, map_le (λ x. x.old) none ws i (rw (length_weights ds ls) l), old_sum ds ls);
      new = λ i l. omega (arith, map_le (λ x. x.new) none ws i (rw (length_weights ds ls) l), new_sum ds ls);
    }

pub lawful : LawsTheorem
lawful ds ls =
    let e = old_sum ds ls ∙ sym (new_sum ds ls) in
    record {
      olds = old_sum ds ls;
      news = new_sum ds ls;
      losses = losses (weights ds ls) e;
      grows = λ i l. dropped_G (weights ds ls) i e (rw (length_weights ds ls) l);
      three = three ds ls;
      drawable = drawable ds ls;
      chosen = chosen ds ls;
      fits = small ds ls;
    }

-- ---- what a caller shows is a proposition

are_donors_prop : (k : ℕ) (Ts : List ℕ) (ls : List Lift) → IsProp (AreDonors k Ts ls)
are_donors_prop k [] ls = hlevel props
are_donors_prop k (T ∷ Ts) ls = let p = are_donors_prop (suc k) Ts ls in hlevel (props, p)

sums_bounded_prop : (Ts : List ℕ) → IsProp (SumsBounded Ts)
sums_bounded_prop [] = hlevel props
sums_bounded_prop (T ∷ Ts) = let p = sums_bounded_prop Ts in hlevel (props, p)

inside_prop : (n : ℕ) (x : Initial) → IsProp (Inside n x)
inside_prop n (here i) = hlevel props
inside_prop n elsewhere = hlevel props

stands_prop : (Ts : List ℕ) (xs : List Initial) (n : ℕ) → IsProp (Stands Ts xs n)
stands_prop Ts [] n = hlevel props
stands_prop [] (x ∷ xs) n = let p = stands_prop [] xs n in hlevel (props, p)
stands_prop (T ∷ Ts) (x ∷ xs) n = let p = stands_prop Ts xs n in let q = inside_prop n x in hlevel (props, p, q)

pub callable_prop : (ds : Donors) (ls : List Lift) (h : Held) → IsProp (Callable ds ls h)
callable_prop ds ls h =
    let p = are_donors_prop 1 (whole_sums ds) ls in
    let q = sums_bounded_prop (whole_sums ds) in
    let r = stands_prop (whole_sums ds) (initials h) (length ls) in
    hlevel (props, p, q, r)
