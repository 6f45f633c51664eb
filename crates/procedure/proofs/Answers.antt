-- The answer to a run, draw by draw: one law for each way out of the code.
use Prim.Native.Nat.{ℕ, ◌≤◌, ◌<◌}
use mathlib.Core.Path.{◌≡◌, refl, sym, ap, ◌∙◌}
use mathlib.Core.Bool.{Bool, false, cond}
use mathlib.Core.List.{List, map}
use lib.Dec.{ltb}
use lib.ListN.{length}
use borrow.Author.Tests.{lt-ltb, le-ltb, le-leb, lt-leb}
use Rattle.std.specs.Prelude.{Option, Some, None, option_map}
use Rattle.probability.specs.Interval.{pick}
use Rattle.probability.specs.Plan.{Plan, done, draw}
use Rattle.probability.specs.Branch.{Branch, absent, present, update_or, TakenBelow}
use Rattle.draw.specs.Draw.{largest, draw_at, reached}
use Rattle.draw.specs.Run.{Run, finished, short, extend_run, run, answer, preceded_by, continued}
use Rattle.draw.proofs.Runs.{run_every}
use Rattle.draw.proofs.After.{run_bind}
use Rattle.round.specs.Round.{weights, weight_at, growth, G}
use Rattle.round.specs.Choice.{selection, draw_place, fresh, preliminary_by, preliminary, stay_or, replacement, keyfitz, plan_by, plan}
use Rattle.round.specs.Rows.{initial_of, initials, Callable}
use Rattle.weights.specs.Scaling.{scaled, scale_of, wholly, WeightsFit, Balanced}
use Rattle.procedure.specs.Preliminary.{proposed, Contested}
use Rattle.round.specs.declared.Donors.{Donors}
use Rattle.round.specs.declared.Held.{Held}
use Rattle.round.specs.declared.Lift.{Lift}
use Rattle.round.specs.declared.Selection.{Selection}
use Rattle.round.specs.declared.Weight.{Weight}
use Rattle.weights.specs.declared.Scale.{Scale}
use Rattle.round.proofs.Laws.{donor_D, placed_preliminary}
use Rattle.weights.proofs.Scales.{updatable, fresh_scaled, weights_scaled}

drew_answer : {A : Type 0} (v : ℕ) (r : Run A) → answer (extend_run v r) ≡ answer r
drew_answer v (finished vs a next) = refl
drew_answer v short = refl

module _ (m : ℕ) (ws : List ℕ) (from : ℕ) where
  -- a draw gave v: what follows gives the answer
  pub on_value : {A : Type 0} (b : ℕ) {f : Option ℕ} (n : ℕ) {v : ℕ} (k : ℕ → Plan A) → reached f n ≡ draw_at m ws from b → f ≡ Some v
      → answer (run m ws n (k v)) ≡ answer (run m ws from (draw b k))
  unfolding run
  on_value b n {v} k e q = rw (← e, q) (sym (drew_answer v (run m ws n (k v))))

  -- the words ended in a draw
  pub on_end : {A : Type 0} (b : ℕ) {f : Option ℕ} (n : ℕ) (k : ℕ → Plan A) → reached f n ≡ draw_at m ws from b → f ≡ None → None ≡ answer (run m ws from (draw b k))
  unfolding run
  on_end b n k e q = rw (← e, q)

  -- ---- a draw below the sum of the growths

  module _ (dropped : Bool) (wts : List Weight) {b : ℕ} (g : b ≡ G wts) {f : Option ℕ} (n : ℕ) (e : reached f n ≡ draw_at m ws from b) where
    pub drawn : {q p : ℕ} → f ≡ Some q → p ≡ pick (map growth wts) q
        → Some (selection p dropped, n) ≡ answer (run m ws from (draw_place (G wts) (map growth wts) dropped))
    unfolding draw_place run
    drawn q x = rw (x, ← g) (on_value b n (λ v. done (selection (pick (map growth wts) v) dropped)) e q)

    pub drawn_short : f ≡ None → None ≡ answer (run m ws from (draw_place (G wts) (map growth wts) dropped))
    unfolding draw_place
    drawn_short q = rw (← g) (on_end b n (λ v. done (selection (pick (map growth wts) v) dropped)) e q)

  -- ---- Keyfitz's update

  -- what follows a draw r below the old weight of the lift at place i
  abbrev after : List Weight → ℕ → Weight → ℕ → Plan Selection
  after wts i w r = cond (ltb r w.new) (done (selection i false)) (replacement wts)

  module _ (wts : List Weight) (i : ℕ) {w : Weight} (u : w ≡ weight_at wts i) where
    -- it stays with no draw
    pub stays : w.old ≤ w.new → Some (selection i false, from) ≡ answer (run m ws from (keyfitz wts i))
    unfolding keyfitz stay_or run
    stays k = rw (← u, le-leb _ _ k)

    module _ (shrinks : w.new < w.old) {f : Option ℕ} (n : ℕ) (e : reached f n ≡ draw_at m ws from w.old) where
      -- it stays by the draw r
      pub kept : {r : ℕ} → f ≡ Some r → r < w.new → Some (selection i false, n) ≡ answer (run m ws from (keyfitz wts i))
      unfolding keyfitz stay_or run
      kept q k = rw (← u, lt-leb _ _ shrinks) (rw (lt-ltb _ _ k) at (on_value w.old n (after wts i w) e q))

      -- it is dropped by the draw r, and another takes its place
      pub moved : {r : ℕ} → f ≡ Some r → w.new ≤ r → answer (run m ws n (replacement wts)) ≡ answer (run m ws from (keyfitz wts i))
      unfolding keyfitz stay_or
      moved q k = rw (← u, lt-leb _ _ shrinks) (rw (le-ltb _ _ k) at (on_value w.old n (after wts i w) e q))

      pub update_short : f ≡ None → None ≡ answer (run m ws from (keyfitz wts i))
      unfolding keyfitz stay_or
      update_short q = rw (← u, lt-leb _ _ shrinks) (on_end w.old n (after wts i w) e q)

-- ---- the preliminary lift

-- where both are held here, there is something to draw below
pub contested : {ds : Donors} {ls : List Lift} {s : Scale} (h : Held) → s ≡ scale_of ds ls → Callable ds ls h → Contested s.new h.first h.second
contested {ds} {ls} {s} h e c = go h.first refl h.second
  where
    go : (x : Option ℕ) → h.first ≡ x → (y : Option ℕ) → Contested s.new x y
    go None q y = tt
    go (Some i) q None = tt
    go (Some i) q (Some j) = rw e (donor_D ds ls c.fitting (initials h) c.stands 0 i (ap initial_of q))

-- ---- the choice of a round, by its preliminary lift

preceded_answer : {A : Type 0} (vs : List ℕ) (r : Run A) → answer r ≡ answer (preceded_by vs r)
preceded_answer vs (finished us a next) = refl
preceded_answer vs short = refl

module _ (update : ℕ → Plan Selection) (fresh : Plan Selection) (ws : List ℕ) (from : ℕ) where
  -- what follows from it
  abbrev follow : Option (Option ℕ × ℕ) → Option (Selection × ℕ)
  follow (Some (Some i, n)) = answer (run largest ws n (update i))
  follow (Some (None, n)) = answer (run largest ws n fresh)
  follow None = None

  -- is the choice
  follows : (s : Branch) → follow (proposed ws from s) ≡ answer (run largest ws from (update_or update fresh s))
  unfolding update_or
  follows absent = refl
  follows (present p) = rw (run_bind largest ws from p update) (go (run largest ws from p))
    where
      go : (r : Run ℕ) → follow (option_map (λ (x : ℕ × ℕ). (Some x.0, x.1)) (answer r)) ≡ answer (continued r (λ i n. run largest ws n (update i)))
      go (finished vs i n) = preceded_answer vs (run largest ws n (update i))
      go short = refl

-- a lift that is answered stands at a place below n
abbrev Below : ℕ → Option (Option ℕ × ℕ) → Type 0
Below n (Some (Some i, next)) = i < n
Below n (Some (None, next)) = Unit {0}
Below n None = Unit {0}

below : (n : ℕ) (ws : List ℕ) (from : ℕ) (s : Branch) → TakenBelow n s → Below n (proposed ws from s)
below n ws from absent t = tt
below n ws from (present p) t = go (run largest ws from p) refl
  where
    go : (r : Run ℕ) → run largest ws from p ≡ r → Below n (option_map (λ (x : ℕ × ℕ). (Some x.0, x.1)) (answer r))
    go (finished vs i next) q = run_every (λ i. i < n) largest p t ws from q
    go short q = tt

module _ (ds : Donors) (ls : List Lift) (ws : List ℕ) (from : ℕ) {s : Scale} (scale : s ≡ scale_of ds ls) (h : Held) (f : Option (Option ℕ)) (n : ℕ)
    (e : reached f n ≡ proposed ws from (preliminary_by s.new s.odds (initials h))) where
  by_round_lem : reached f n ≡ proposed ws from (preliminary ds ls (initials h))
  by_round_lem = rw scale at e

  followed : follow (keyfitz (weights ds ls)) (fresh ls) ws from (reached f n) ≡ answer (run largest ws from (plan ds ls (initials h)))
  unfolding plan_by
  followed = ap (follow (keyfitz (weights ds ls)) (fresh ls) ws from) by_round_lem ∙ follows (keyfitz (weights ds ls)) (fresh ls) ws from (preliminary ds ls (initials h))

  pub on_none : f ≡ Some None → answer (run largest ws n (draw_place (G (map (scaled wholly) ls)) (map growth (map (scaled wholly) ls)) false))
      ≡ answer (run largest ws from (plan ds ls (initials h)))
  on_none q = ap (λ (p : Plan Selection). answer (run largest ws n p)) (sym (fresh_scaled ls)) ∙ (rw q at followed)

  pub on_place : {i : ℕ} → f ≡ Some (Some i) → answer (run largest ws n (keyfitz (map (scaled s) ls) i)) ≡ answer (run largest ws from (plan ds ls (initials h)))
  on_place q = rw (scale, ← weights_scaled ds ls) (rw q at followed)

  pub on_short : f ≡ None → None ≡ answer (run largest ws from (plan ds ls (initials h)))
  on_short q = rw q at followed

  -- the update can be made
  pub on_place_fits : {i : ℕ} → Callable ds ls h → f ≡ Some (Some i) → WeightsFit s ls × (Balanced s ls × (i < length ls))
  on_place_fits c q =
      let u = updatable scale c.fitting c.bounded in
      let b = below (length ls) ws from (preliminary ds ls (initials h)) (placed_preliminary ds ls c.fitting (initials h) c.stands) in
      (u.0, (u.1, rw (← by_round_lem, q) at b))
