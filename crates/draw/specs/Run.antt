-- Running a plan on random words.
use Rattle.std.specs.Prelude.{ℕ, ◌≡◌, Option, Some, None}
use mathlib.Core.List.{List, [], ◌∷◌, ◌++◌, Memᴰ}
use Rattle.probability.specs.Plan.{Plan, done, draw, bind, SamePlan, Path, paths}
use Rattle.draw.specs.Draw.{draw_at}

-- the values drawn, the result and the next position; or the words ended before a draw was finished
pub data Run (A : Type 0) : Type 0 where
  finished : (values : List ℕ) → (result : A) → (next : ℕ) → Run A
  short : Run A

-- a run with a first draw of v put before it
abbrev pub extend_run : {A : Type 0} → ℕ → Run A → Run A
extend_run v (finished vs a next) = finished (v ∷ vs) a next
extend_run v short = short

-- after a draw, the run continues with its value, from the position behind it
abbrev pub follow : {A : Type 0} → Option (ℕ × ℕ) → (ℕ → ℕ → Run A) → Run A
follow (Some (v, next)) k = extend_run v (k v next)
follow None k = short

-- the run of a plan on the words ws from a position on, m being the largest word
unfoldable pub run : {A : Type 0} → ℕ → List ℕ → ℕ → Plan A → Run A
run m ws at (done a) = finished [] a at
run m ws at (draw b k) = follow (draw_at m ws at b) (λ v next. run m ws next (k v))

-- the answer to a run: its result and the next position; none where the words ended
abbrev pub answer : {A : Type 0} → Run A → Option (A × ℕ)
answer (finished vs a next) = Some (a, next)
answer short = None

-- what is proved of the run of every plan (proofs/Runs.antt)
pub record FollowsAPath {A : Type 0} (m : ℕ) (p : Plan A) : Type 0 where
  -- it follows one of the plan's paths
  pub path : (ws vs : List ℕ) (at next : ℕ) (a : A) → run m ws at p ≡ finished vs a next
      → (bounds : ℕ) × Memᴰ {A = Path A} (record { values = vs; bounds = bounds; result = a }) (paths p)
  -- and where it draws the values of a path, that path's result is its result
  pub result : (ws : List ℕ) (at next : ℕ) (a : A) (q : Path A) → Memᴰ q (paths p) → run m ws at p ≡ finished q.values a next → q.result ≡ a

-- a run with the values vs drawn before it
abbrev pub preceded_by : {A : Type 0} → List ℕ → Run A → Run A
preceded_by vs (finished us a next) = finished (vs ++ us) a next
preceded_by vs short = short

-- a run, and from where it ended another, chosen by its result; their values joined
abbrev pub continued : {A B : Type 0} → Run A → (A → ℕ → Run B) → Run B
continued (finished vs a next) k = preceded_by vs (k a next)
continued short k = short

-- the run of one plan after another is the run of the first and, from where it ended, the run of the second (proofs/After.antt)
abbrev pub RunBindTheorem : Type 1
RunBindTheorem = (A B : Type 0) (m : ℕ) (ws : List ℕ) (at : ℕ) (p : Plan A) (k : A → Plan B) → run m ws at (bind p k) ≡ continued (run m ws at p) (λ a next. run m ws next (k a))

-- plans that are the same run alike (proofs/After.antt)
abbrev pub SameRunTheorem : Type 1
SameRunTheorem = (A : Type 0) (m : ℕ) (ws : List ℕ) (at : ℕ) (p q : Plan A) → SamePlan p q → run m ws at p ≡ run m ws at q
