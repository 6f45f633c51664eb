-- What holds of every element of a list, by induction along it, and a part of a list as it is lent.
use Prim.Native.Nat.{ℕ, zero, suc, ◌-◌}
use mathlib.Core.Path.{◌≡◌, refl, ap}
use mathlib.Core.Bool.{Bool, true, false, cond}
use mathlib.Core.List.Memᴰ
use mathlib.Core.List.{List, [], ◌∷◌, ◌++◌, map, Memᴰ}
use mathlib.Core.Logic.{◌⊎◌, inl, inr}
use native.Mathlib.Nat.{sub-zero, zero-sub, suc-sub-suc}
use lib.ListN.{get_or, take, drop}
use lib.Seq.{slice, take-nil, drop-nil}

abbrev pub All : {A : Type 0} → (A → Type 0) → List A → Type 0
All {A} P xs = (x : A) → Memᴰ x xs → P x

module _ {A : Type 0} (P : A → Type 0) where
  pub all_none : All P []
  all_none x m = absurd (Memᴰ.not-nil m)

  pub all_more : {x : A} {xs : List A} → P x → All P xs → All P (x ∷ xs)
  all_more {x} {xs} p h y m = go (Memᴰ.cases_cons m)
    where
      go : (y ≡ x) ⊎ Memᴰ y xs → P y
      go (inl e) = rw e p
      go (inr i) = h y i

  pub all_keep : (t : Bool) {x : A} {xs : List A} → (t ≡ true → P x) → All P xs → All P (cond t (x ∷ xs) xs)
  all_keep true p h = all_more (p refl) h
  all_keep false p h = h

  pub all_append : (xs : List A) {ys : List A} → All P xs → All P ys → All P (xs ++ ys)
  all_append xs {ys} h k x m = go (Memᴰ.append_cases xs m)
    where
      go : Memᴰ x xs ⊎ Memᴰ x ys → P x
      go (inl i) = h x i
      go (inr i) = k x i

  pub all_map : {B : Type 0} (f : B → A) (xs : List B) → All (λ x. P (f x)) xs → All P (map f xs)
  all_map f [] h = all_none
  all_map f (x ∷ xs) h = all_more (h x (Memᴰ.head refl)) (all_map f xs (λ y m. h y (Memᴰ.tail m)))

  -- and of the default holds at every place
  pub all_get_d : {d : A} → P d → (xs : List A) → All P xs → (i : ℕ) → P (get_or xs i d)
  all_get_d z [] h i = z
  all_get_d z (x ∷ xs) h zero = h x (Memᴰ.head refl)
  all_get_d z (x ∷ xs) h (suc i) = all_get_d z xs (λ y m. h y (Memᴰ.tail m)) i

-- a part from a to e, as it is lent
pub slice_lent : {A : Type 0} (a e : ℕ) (l : List A) → take (e - a) (drop a l) ≡ slice a e l
slice_lent zero e l = ap (λ n. take n l) (sub-zero e)
slice_lent (suc a) zero l = rw (zero-sub (suc a), drop-nil) refl
slice_lent (suc a) (suc e) [] = take-nil (suc e - suc a)
slice_lent (suc a) (suc e) (x ∷ l) = rw (suc-sub-suc e a) (slice_lent a e l)
