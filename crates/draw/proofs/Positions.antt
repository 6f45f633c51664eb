-- A draw and a run end behind where they began, and not behind the words. By induction along the words and the plan.
use Prim.Native.Nat.{ℕ, suc, ◌+◌, ◌*◌, ◌%◌, ◌≤◌}
use mathlib.Core.Path.{◌≡◌, refl, ap}
use mathlib.Core.Bool.{Bool, true, false, cond}
use mathlib.Core.List.{List, [], ◌∷◌}
use native.Mathlib.Omega.{arith}
use lib.Dec.{ltb}
use lib.ListN.{length, drop, length-drop}
use Rattle.probability.specs.Plan.{Plan, done, draw}
use Rattle.std.specs.Prelude.{Option, Some, None}
use Rattle.draw.specs.Draw.{K, draw_from, draw_at}
use Rattle.draw.specs.Run.{Run, finished, short, extend_run, follow, run}

drawn_between : (m b i : ℕ) (ws : List ℕ) {v next : ℕ} → draw_from m b i ws ≡ Some (v, next) → (i ≤ next) × (next ≤ i + length ws)
unfolding draw_from
drawn_between m b i [] e = absurd (cc)
drawn_between m b i (w ∷ ws) {v} {next} e = go (ltb w (K m b * b)) e (drawn_between m b (i + 1) ws)
  where
    go : (t : Bool) → cond t (Some (w % b, i + 1)) (draw_from m b (i + 1) ws) ≡ Some (v, next)
        → (draw_from m b (i + 1) ws ≡ Some (v, next) → (i + 1 ≤ next) × (next ≤ i + 1 + length ws)) → (i ≤ next) × (next ≤ i + suc (length ws))
    go true q r = let p : ◌≡◌ {A = ℕ × ℕ} (w % b, i + 1) (v, next) = cc in let x : i + 1 ≡ next = ap (λ (z : ℕ × ℕ). z.1) p in (omega arith, omega arith)
    go false q r = let k = r q in (omega (arith, k.0), omega (arith, k.1))

pub run_between : {A : Type 0} (m : ℕ) (ws : List ℕ) (from : ℕ) (p : Plan A) {vs : List ℕ} {a : A} {next : ℕ} → run m ws from p ≡ finished vs a next
    → (from ≤ next) × (from ≤ length ws → next ≤ length ws)
unfolding run
run_between m ws from (done a) {next = next} e = let x : from ≡ next = cc in (omega arith, λ h. omega arith)
run_between {A} m ws from (draw b k) {vs} {a} {next} e = go (draw_at m ws from b) refl e (λ v n us. run_between m ws n (k v) {vs = us})
  where
    behind : (v n : ℕ) (y : Run A) → extend_run v y ≡ finished vs a next → draw_at m ws from b ≡ Some (v, n)
        → ((us : List ℕ) → y ≡ finished us a next → (n ≤ next) × (n ≤ length ws → next ≤ length ws)) → (from ≤ next) × (from ≤ length ws → next ≤ length ws)
    behind v n (finished us c l) q d rest =
        let x : finished us c l ≡ finished us a next = cc in
        let r = rest us x in
        let k = drawn_between m b from (drop from ws) d in
        (omega (arith, k.0, r.0), λ h. r.1 (omega (arith, k.1, length-drop from ws)))
    behind v n short q d rest = absurd (cc)

    go : (x : Option (ℕ × ℕ)) → draw_at m ws from b ≡ x → follow x (λ v n. run m ws n (k v)) ≡ finished vs a next
        → ((v n : ℕ) (us : List ℕ) → run m ws n (k v) ≡ finished us a next → (n ≤ next) × (n ≤ length ws → next ≤ length ws))
        → (from ≤ next) × (from ≤ length ws → next ≤ length ws)
    go (Some (v, n)) d q rest = behind v n (run m ws n (k v)) q d (rest v n)
    go None d q rest = absurd (cc)
