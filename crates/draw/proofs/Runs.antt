-- A run follows a path of its plan, since the values that it draws are below the bounds that it meets; and a path's values fix its result.
use Prim.Native.Nat.{ℕ, zero, suc, ◌+◌, ◌*◌, ◌%◌, ◌<◌}
use mathlib.Core.Path.{◌≡◌, refl, ap, ◌∙◌}
use mathlib.Core.Logic.{◌⊎◌, inl, inr}
use mathlib.Core.Bool.{Bool, true, false, cond}
use mathlib.Core.List.Memᴰ
use mathlib.Core.List.{List, [], ◌∷◌, ◌++◌, map, Memᴰ}
use native.Mathlib.Nat.{mod-lt, mul-zero}
use native.Mathlib.Omega.{arith}
use lib.ListN.{drop}
use lib.Dec.{ltb}
use borrow.Author.Tests.{ltb-true}
use Rattle.probability.specs.Sum.{over}
use Rattle.probability.specs.Plan.{Plan, done, draw, Every, Path, extend_path as step, paths}
use Rattle.std.specs.Prelude.{Option, Some, None}
use Rattle.draw.specs.Draw.{K, draw_from, draw_at}
use Rattle.draw.specs.Run.{Run, finished, short, extend_run, follow, run, FollowsAPath}

mod_below : (w k b : ℕ) → w < k * b → w % b < b
mod_below w k zero h = absurd (omega (arith, mul-zero k))
mod_below w k (suc b) h = mod-lt w (omega arith)

from_below : (m b i : ℕ) (ws : List ℕ) (v next : ℕ) → draw_from m b i ws ≡ Some (v, next) → v < b
unfolding draw_from
from_below m b i [] v next e = absurd (cc)
from_below m b i (w ∷ ws) v next e = go (ltb w (K m b * b)) refl e (from_below m b (i + 1) ws v next)
  where
    go : (t : Bool) → ltb w (K m b * b) ≡ t → cond t (Some (w % b, i + 1)) (draw_from m b (i + 1) ws) ≡ Some (v, next)
        → (draw_from m b (i + 1) ws ≡ Some (v, next) → v < b) → v < b
    go true l q r = let p : ◌≡◌ {A = ℕ × ℕ} (w % b, i + 1) (v, next) = cc in let x : w % b ≡ v = ap (λ (z : ℕ × ℕ). z.0) p in rw x at (mod_below w (K m b) b (ltb-true w _ l))
    go false l q r = r q

-- a value that is drawn is below the bound
pub value_below : (m : ℕ) (ws : List ℕ) (at b : ℕ) {v next : ℕ} → draw_at m ws at b ≡ Some (v, next) → v < b
value_below m ws at b e = from_below m b at (drop at ws) _ _ e

mem_map : {A B : Type 0} (f : A → B) {a : A} {xs : List A} → Memᴰ a xs → Memᴰ (f a) (map f xs)
mem_map f (Memᴰ.head e) = Memᴰ.head (ap f e)
mem_map f (Memᴰ.tail d) = Memᴰ.tail (mem_map f d)

mem_over : {A : Type 0} {a : A} (n : ℕ) (f : ℕ → List A) (v : ℕ) → v < n → Memᴰ a (f v) → Memᴰ a (over ◌++◌ [] n f)
unfolding over
mem_over zero f v l d = absurd (omega arith)
mem_over (suc n) f zero l d = Memᴰ.append_left _ d
mem_over (suc n) f (suc v) l d = Memᴰ.append_right (f 0) (mem_over n (λ i. f (suc i)) v (omega arith) d)

-- a path that ends at once
abbrev stop : {A : Type 0} → List ℕ → A → Path A
stop vs a = record { values = vs; bounds = 1; result = a }

stops : {A : Type 0} (a : A) (vs : List ℕ) (at next : ℕ) (x : A) → finished [] a at ≡ finished vs x next → Memᴰ (stop vs x) (stop [] a ∷ [])
stops a vs at next x e =
    let p : vs ≡ [] = cc in let q : x ≡ a = cc in let r : stop vs x ≡ stop [] a = rw (p, q) in
    Memᴰ.head {x = stop [] a} r

followed : {A : Type 0} (m : ℕ) (p : Plan A) (ws vs : List ℕ) (at next : ℕ) (a : A) → run m ws at p ≡ finished vs a next
    → (o : ℕ) × Memᴰ {A = Path A} (record { values = vs; bounds = o; result = a }) (paths p)
unfolding run paths
followed m (done a) ws vs at next x e = (1, stops a vs at next x e)
followed {A} m (draw b k) ws vs at next x e = go (draw_at m ws at b) refl e (λ v n us. followed m (k v) ws us n next x)
  where
    reached : (v : ℕ) (r : Run A) → v < b → extend_run v r ≡ finished vs x next
        → ((us : List ℕ) → r ≡ finished us x next → (o : ℕ) × Memᴰ {A = Path A} (record { values = us; bounds = o; result = x }) (paths (k v)))
        → (o : ℕ) × Memᴰ {A = Path A} (record { values = vs; bounds = o; result = x }) (over ◌++◌ [] b (λ v. map (step b v) (paths (k v))))
    reached v (finished us y n) l q h =
        let (o, d) = h us (cc) in
        (b * o, Memᴰ.cast (cc) (mem_over b (λ v. map (step b v) (paths (k v))) v l (mem_map (step b v) d)))
    reached v short l q h = absurd (cc)

    go : (d : Option (ℕ × ℕ)) → draw_at m ws at b ≡ d → follow d (λ v n. run m ws n (k v)) ≡ finished vs x next
        → ((v n : ℕ) (us : List ℕ) → run m ws n (k v) ≡ finished us x next → (o : ℕ) × Memᴰ {A = Path A} (record { values = us; bounds = o; result = x }) (paths (k v)))
        → (o : ℕ) × Memᴰ {A = Path A} (record { values = vs; bounds = o; result = x }) (over ◌++◌ [] b (λ v. map (step b v) (paths (k v))))
    go (Some (v, n)) l q h = reached v (run m ws n (k v)) (value_below m ws at b l) q (h v n)
    go None l q h = absurd (cc)

-- what every result of a plan has, its run's result has
pub run_every : {A : Type 0} (P : A → Type 0) (m : ℕ) (p : Plan A) → Every P p → (ws : List ℕ) (at : ℕ) {vs : List ℕ} {next : ℕ} {a : A} → run m ws at p ≡ finished vs a next → P a
unfolding run Every
run_every P m (done x) d ws at {vs} {next} {a} e = let z : x ≡ a = cc in rw z at d
run_every {A} P m (draw b k) d ws at {vs} {next} {a} e = go (draw_at m ws at b) refl e (λ v l n us. run_every P m (k v) (d.1 v l) ws n {vs = us})
  where
    reached : (v : ℕ) (r : Run A) → extend_run v r ≡ finished vs a next → ((us : List ℕ) → r ≡ finished us a next → P a) → P a
    reached v (finished us y n) q h = h us (cc)
    reached v short q h = absurd (cc)

    go : (x : Option (ℕ × ℕ)) → draw_at m ws at b ≡ x → follow x (λ v n. run m ws n (k v)) ≡ finished vs a next
        → ((v : ℕ) → v < b → (n : ℕ) (us : List ℕ) → run m ws n (k v) ≡ finished us a next → P a) → P a
    go (Some (v, n)) l q h = reached v (run m ws n (k v)) q (h v (value_below m ws at b l) n)
    go None l q h = absurd (cc)

-- ---- a path's values fix its result

map_cases : {A B : Type 0} (f : A → B) {b : B} (xs : List A) → Memᴰ b (map f xs) → (a : A) × (b ≡ f a) × Memᴰ a xs
map_cases f [] d = absurd (Memᴰ.not-nil d)
map_cases {A} {B} f {b} (x ∷ xs) d = go (Memᴰ.cases_cons d) (map_cases f xs)
  where
    go : (b ≡ f x) ⊎ Memᴰ b (map f xs) → (Memᴰ b (map f xs) → (a : A) × (b ≡ f a) × Memᴰ a xs) → (a : A) × (b ≡ f a) × Memᴰ a (x ∷ xs)
    go (inl e) r = (x, e, Memᴰ.head refl)
    go (inr m) r = let (a, e, h) = r m in (a, e, Memᴰ.tail h)

over_cases : {A : Type 0} {a : A} (n : ℕ) (f : ℕ → List A) → Memᴰ a (over ◌++◌ [] n f) → (v : ℕ) × Memᴰ a (f v)
unfolding over
over_cases zero f d = absurd (Memᴰ.not-nil d)
over_cases {A} {a} (suc n) f d = go (Memᴰ.append_cases (f 0) d) (over_cases n (λ i. f (suc i)))
  where
    go : Memᴰ a (f 0) ⊎ Memᴰ a (over ◌++◌ [] n (λ i. f (suc i))) → (Memᴰ a (over ◌++◌ [] n (λ i. f (suc i))) → (v : ℕ) × Memᴰ a (f (suc v)))
        → (v : ℕ) × Memᴰ a (f v)
    go (inl m) r = (0, m)
    go (inr m) r = let (v, h) = r m in (suc v, h)

fixed : {A : Type 0} (m : ℕ) (p : Plan A) (ws : List ℕ) (at next : ℕ) (a : A) (q : Path A) → Memᴰ q (paths p) → run m ws at p ≡ finished q.values a next → q.result ≡ a
unfolding run paths
fixed m (done x) ws at next a q d e = let r : q ≡ stop [] x = Memᴰ.eq_of_singleton d in let s : x ≡ a = cc in ap (λ (z : Path _). z.result) r ∙ s
fixed {A} m (draw b k) ws at next a q d e =
    let (v, h) = over_cases b (λ v. map (step b v) (paths (k v))) d in
    let (r, f, c) = map_cases (step b v) (paths (k v)) h in
    ap (λ (z : Path A). z.result) f ∙ go v r c (ap (λ (z : Path A). z.values) f) (draw_at m ws at b) e (λ n. fixed m (k v) ws n next a r c)
  where
    last : (v : ℕ) (r : Path A) (u : ℕ) (s : Run A) → q.values ≡ v ∷ r.values → extend_run u s ≡ finished q.values a next → (u ≡ v) × (s ≡ finished r.values a next)
    last v r u (finished us y n) f g = (cc, cc)
    last v r u short f g = absurd (cc)

    go : (v : ℕ) (r : Path A) → Memᴰ r (paths (k v)) → q.values ≡ v ∷ r.values → (x : Option (ℕ × ℕ)) → follow x (λ u n. run m ws n (k u)) ≡ finished q.values a next
        → ((n : ℕ) → run m ws n (k v) ≡ finished r.values a next → r.result ≡ a) → r.result ≡ a
    go v r c f (Some (u, n)) g h = let (i, j) = last v r u (run m ws n (k u)) f g in h n (rw i at j)
    go v r c f None g h = absurd (cc)

pub follows : {A : Type 0} (m : ℕ) (p : Plan A) → FollowsAPath m p
follows m p = record { path = followed m p; result = fixed m p }
