-- Runs of one plan after another, and of plans that are the same. By induction over the plan.
use Prim.Native.Nat.{ℕ, ◌<◌}
use mathlib.Core.Path.{◌≡◌, refl, ap, fun_ext, ◌∙◌}
use mathlib.Core.List.{List, [], ◌∷◌}
use Rattle.probability.specs.Plan.{Plan, done, draw, bind, SamePlan}
use Rattle.std.specs.Prelude.{Option, Some, None}
use Rattle.draw.specs.Draw.{draw_at}
use Rattle.draw.specs.Run.{Run, finished, short, extend_run, follow, run, preceded_by, continued, RunBindTheorem, SameRunTheorem}
use Rattle.draw.proofs.Runs.{value_below}

-- ---- one plan after another

preceded_none : {A : Type 0} (r : Run A) → r ≡ preceded_by [] r
preceded_none (finished us a next) = refl
preceded_none short = refl

preceded_more : {A : Type 0} (v : ℕ) (vs : List ℕ) (r : Run A) → extend_run v (preceded_by vs r) ≡ preceded_by (v ∷ vs) r
preceded_more v vs (finished us a next) = refl
preceded_more v vs short = refl

extend_continued : {A B : Type 0} (v : ℕ) (r : Run A) (k : A → ℕ → Run B) → extend_run v (continued r k) ≡ continued (extend_run v r) k
extend_continued v (finished vs a next) k = preceded_more v vs (k a next)
extend_continued v short k = refl

follow_continued : {A B : Type 0} (d : Option (ℕ × ℕ)) (g : ℕ → ℕ → Run A) (k : A → ℕ → Run B) → follow d (λ v n. continued (g v n) k) ≡ continued (follow d g) k
follow_continued (Some (v, n)) g k = extend_continued v (g v n) k
follow_continued None g k = refl

pub run_bind : {A B : Type 0} (m : ℕ) (ws : List ℕ) (at : ℕ) (p : Plan A) (k : A → Plan B) → run m ws at (bind p k) ≡ continued (run m ws at p) (λ a next. run m ws next (k a))
unfolding run bind
run_bind m ws at (done a) k = preceded_none (run m ws at (k a))
run_bind m ws at (draw b f) k =
    ap (follow (draw_at m ws at b)) (fun_ext (λ v. fun_ext (λ n. run_bind m ws n (f v) k)))
    ∙ follow_continued (draw_at m ws at b) (λ v n. run m ws n (f v)) (λ a next. run m ws next (k a))

pub run_bind_theorem : RunBindTheorem
run_bind_theorem A B = run_bind

-- ---- plans that are the same

pub same_run : {A : Type 0} (m : ℕ) (ws : List ℕ) (at : ℕ) (p q : Plan A) → SamePlan p q → run m ws at p ≡ run m ws at q
unfolding SamePlan run
same_run m ws at (done a) (done b) s = ap (λ x. finished [] x at) s
same_run m ws at (done a) (draw c g) s = absurd s
same_run m ws at (draw b f) (done a) s = absurd s
same_run {A} m ws at (draw b f) (draw c g) s = rw (← s.0) (go (draw_at m ws at b) refl (λ v n l. same_run m ws n (f v) (g v) (s.1 v l)))
  where
    go : (d : Option (ℕ × ℕ)) → draw_at m ws at b ≡ d → ((v n : ℕ) → v < b → run m ws n (f v) ≡ run m ws n (g v)) → follow d (λ v n. run m ws n (f v)) ≡ follow d (λ v n. run m ws n (g v))
    go (Some (v, n)) e h = ap (extend_run v) (h v n (value_below m ws at b e))
    go None e h = refl

pub same_run_theorem : SameRunTheorem
same_run_theorem A = same_run
