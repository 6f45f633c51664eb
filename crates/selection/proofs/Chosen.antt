-- What a round of lifts that fit chooses: a lift of that round whose new measure is above 0, since its held lifts have weight.
use Prim.Native.Nat.{ℕ, zero, suc, ◌+◌, ◌≤◌, ◌<◌}
use mathlib.Core.Path.{◌≡◌, refl, ap, ◌∙◌}
use mathlib.Core.Bool.{Bool, true, false, cond, ◌&&◌, and-eq-true_iff, false≢true}
use mathlib.Core.List.{List, [], ◌∷◌, map, Memᴰ}
use native.Mathlib.Omega.{arith}
use lib.Dec.{eqb}
use lib.ListN.{length, length-map, get_or}
use borrow.Author.Tests.{eqb-true, eq-eqb}
use Rattle.probability.specs.Initial.{Initial, here, elsewhere}
use Rattle.probability.proofs.Lists.{all_get_d}
use Rattle.draw.specs.Draw.{largest}
use Rattle.draw.specs.Run.{finished, run}
use Rattle.draw.proofs.Runs.{run_every}
use Rattle.round.specs.Round.{lift_at as round_lift_at, old_weight, weights, weight_at, whole_sums, WellPosed}
use Rattle.round.specs.Choice.{keyfitz}
use Rattle.round.specs.declared.Selection.{Selection}
use Rattle.round.specs.Law.{Weighty}
use Rattle.round.specs.Rows.{lift_of_measures, IfHere}
use Rattle.round.specs.declared.Donors.{Donors}
use Rattle.round.specs.declared.Lift.{Lift as RoundLift}
use Rattle.round.specs.declared.Weight.{Weight}
use Rattle.round.proofs.Laws.{donor_weight, lawful}
use Rattle.sheet.specs.Sheet.{most_rounds, Lift}
use Rattle.tally.specs.Law.{Fit}
use Rattle.sheet.specs.Lift.{New, place_at}
use Rattle.tally.specs.Rounds.{lift_count, donors, of_round, donor_number, further, held_at}
use Rattle.selection.specs.Choice.{donors_of, in_round, lifts_of, held_of_round, plan_of, no_lift, lift_in_round}
use Rattle.selection.proofs.Held.{proper}
use Rattle.selection.proofs.Flags.{of_round_all}
use Rattle.selection.proofs.RoundsFit.{Keys, donor_keys, whole_of, donors_sums, round_fits}

-- ---- held lifts have weight

-- the lift that stands at the place of the held lift of old round t
record Stood (t : ℕ) (u : Lift) : Type 0 where
  held : u.held ≡ true
  from : u.old.round ≡ t

stood : (t : ℕ) (us : List Lift) (i : ℕ) → held_at t us ≡ here i → Stood t (get_or us i no_lift)
unfolding held_at
stood t [] i e = let z : ◌≡◌ {A = ℕ} 0 1 = cc in absurd (omega arith)
stood t (u ∷ us) i e = go (u.held && eqb u.old.round t) refl (held_at t us) e (stood t us)
  where
    go : (x : Bool) → (u.held && eqb u.old.round t) ≡ x → (y : Initial) → cond x (here 0) (further y) ≡ here i
        → ((j : ℕ) → y ≡ here j → Stood t (get_or us j no_lift)) → Stood t (get_or (u ∷ us) i no_lift)
    go true q y f rest =
        let z : i ≡ 0 = cc in
        let h = (and-eq-true_iff u.held (eqb u.old.round t)).0 q in
        rw z (record { held = h.0; from = eqb-true u.old.round t h.1 })
    go false q (here j) f rest = let z : i ≡ suc j = cc in rw z (rest j refl)
    go false q elsewhere f rest = let z : ◌≡◌ {A = ℕ} 0 1 = cc in absurd (omega arith)

-- a held lift's weights in its round
weights_at : (g : Lift → RoundLift) (w : RoundLift → Weight) (us : List Lift) (i : ℕ) → (get_or us i no_lift).held ≡ true
    → weight_at (map w (map g us)) i ≡ w (g (get_or us i no_lift))
weights_at g w [] i h = absurd (false≢true h)
weights_at g w (u ∷ us) zero h = refl
weights_at g w (u ∷ us) (suc i) h = weights_at g w us i h

module _ {ls : List Lift} (f : Fit ls) (r : ℕ) where
  abbrev us : List Lift
  us = of_round r ls

  -- the round, its lifts numbered by some donors
  abbrev rows : List ℕ → List RoundLift
  rows ds = map (in_round (donor_number ds)) us

  -- a held lift has an old measure above 0
  some_measure : (i : ℕ) → (get_or us i no_lift).held ≡ true → 0 < (get_or us i no_lift).old.measure
  some_measure i =
      all_get_d (λ l. l.held ≡ true → 0 < l.old.measure) (λ e. absurd (false≢true e)) us
      (of_round_all (λ l. l.held ≡ true → 0 < l.old.measure) r ls (λ l m _. (proper 0 ls f.well_formed.listed l m).held)) i

  -- and so an old weight, if donors and sums give it one
  weight_some : (ds : List ℕ) (D : Donors) (t i : ℕ) → held_at t us ≡ here i
      → ((m b : ℕ) → 0 < m → 0 < old_weight D (rows ds) (lift_of_measures m (donor_number ds t) b)) → 0 < (weight_at (weights D (rows ds)) i).old
  unfolding weights
  weight_some ds D t i e h =
      let s = stood t us i e in
      rw (weights_at _ _ us i s.held, s.from) (h _ _ (some_measure i s.held))

  -- the key of a donor is its number
  weigh : (D : Donors) (ds : List ℕ) → WellPosed D (rows ds) → (k : ℕ) (es : List ℕ) → Keys (donor_number ds) k es → 1 ≤ k → k + length es ≤ suc (length (whole_sums D))
      → Weighty D (rows ds) (map (λ t. held_at t us) es)
  weigh D ds p k [] q l h = tt
  weigh D ds p k (t ∷ es) q l h = (go (held_at t us) refl, weigh D ds p (suc k) es q.1 (omega arith) (omega arith))
    where
      number : donor_number ds t ≡ k
      number = eqb-true (donor_number ds t) k (q.0 t ∙ eq-eqb t t refl)

      go : (x : Initial) → held_at t us ≡ x → IfHere (λ i. 0 < (weight_at (weights D (rows ds)) i).old) x
      go (here i) e = weight_some ds D t i e (λ m b o. rw number (donor_weight D (rows ds) p k l (omega arith) m b o))
      go elsewhere e = tt

-- ---- the lift chosen

-- a lift of round r that measures something there
pub record Measured (ls : List Lift) (r : ℕ) (a : Lift) : Type 0 where
  pub inside : Memᴰ a ls
  pub round : a.new.round ≡ r
  pub some : 0 < (place_at New a).measure

new_some : (g : Lift → RoundLift) → ((l : Lift) → (g l).new ≡ (place_at New l).measure) → (vs : List Lift) (i : ℕ) → 0 < (round_lift_at (map g vs) i).new
    → 0 < (place_at New (get_or vs i no_lift)).measure
new_some g e [] i h = absurd (omega arith)
new_some g e (v ∷ vs) zero h = rw (e v) at h
new_some g e (v ∷ vs) (suc i) h = new_some g e vs i h

-- it is one of them: beyond the last there is no measure
stands_in : (vs : List Lift) (i : ℕ) → 0 < (place_at New (get_or vs i no_lift)).measure → Memᴰ (get_or vs i no_lift) vs
stands_in [] i h = absurd (omega arith)
stands_in (v ∷ vs) zero h = Memᴰ.head refl
stands_in (v ∷ vs) (suc i) h = Memᴰ.tail (stands_in vs i h)

module _ {ls : List Lift} (f : Fit ls) {r : ℕ} (low : 1 ≤ r) (high : r ≤ most_rounds) (used : 0 < lift_count New r ls) where
  -- on every path, and so in every run that ends
  pub run_measured : (ws : List ℕ) (from : ℕ) {vs : List ℕ} {s : Selection} {next : ℕ} → run largest ws from (plan_of keyfitz r ls) ≡ finished vs s next
      → Measured ls r (lift_in_round r ls s.place)
  unfolding plan_of lifts_of held_of_round lift_in_round
  run_measured ws from {vs} {s} {next} e =
      let fits = round_fits f low high used in
      let many = ap length (donors_sums f low high) ∙ length-map (donors r ls) (whole_of ls) in
      let weighty = weigh f r (donors_of r ls) (donors r ls) fits 1 (donors r ls) (donor_keys r ls) (omega arith) (omega arith) in
      let p : 0 < (place_at New (lift_in_round r ls s.place)).measure =
      new_some _ (λ l. refl) (of_round r ls) s.place (run_every _ largest (plan_of keyfitz r ls) ((lawful (donors_of r ls) (lifts_of r ls)).chosen fits.positive (held_of_round r ls) weighty) ws from e) in
      let a = of_round_all (λ l. Memᴰ l ls × (l.new.round ≡ r)) r ls (λ l m q. (m, q)) _ (stands_in (of_round r ls) s.place p) in
      record { inside = a.0; round = a.1; some = p }
