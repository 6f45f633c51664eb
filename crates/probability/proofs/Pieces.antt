-- Laws of a list in pieces: n pieces are the first a of them, and the others, cut from the rest of the list.
use Prim.Native.Nat.{ℕ, zero, suc, ◌+◌, ◌*◌, ◌-◌, ◌/◌, ◌≤◌, ◌<◌}
use mathlib.Core.Path.{◌≡◌, refl, sym, ap, ap₂, ◌∙◌}
use mathlib.Core.Bool.{Bool, true, false}
use mathlib.Core.List.{List, [], ◌∷◌, ◌++◌, append_assoc}
use native.Mathlib.Nat.{le_refl, zero-add, suc-add, sub-zero, mul-zero, mul-sub, mul-le-mul_left, mul-div-le, div-lt_iff_lt-mul, mul-div_cancel_left, mul-add-div}
use native.Mathlib.Omega.{arith}
use lib.Dec.{leb}
use lib.ListN.{length, get_or, take, drop, set, length-append, length-drop}
use lib.Seq.{slice, take-take, take_at, drop-drop, drop_at, get_or-take, get_or-drop, get_or_at, set_at, length-take-le, take_all, sets, length-sets, sets-eq}
use borrow.Author.Tests.{leb-true, leb-false}
use Rattle.std.specs.Simd.{first_chunks}
use Rattle.probability.specs.Pieces.{cut, pieces}
use Rattle.probability.proofs.Lists.{slice_lent}

-- ---- the library's chunks

chunks_cut : {A : Type 0} (k n : ℕ) (xs : List A) → first_chunks k n xs ≡ cut k n xs
unfolding cut
chunks_cut k zero xs = refl
chunks_cut k (suc n) xs = ap (◌∷◌ (take k xs)) (chunks_cut k n (drop k xs))

-- its whole chunks are the pieces
pub chunks_pieces : {A : Type 0} (k : ℕ) (xs : List A) → first_chunks k (length xs / k) xs ≡ pieces k xs
chunks_pieces k xs = chunks_cut k (length xs / k) xs

-- ---- n pieces

module _ {A : Type 0} (k : ℕ) where
  cut_length : (n : ℕ) (xs : List A) → length (cut k n xs) ≡ n
  unfolding cut
  cut_length zero xs = refl
  cut_length (suc n) xs = ap suc (cut_length n (drop k xs))

  cut_add : (a n : ℕ) (xs : List A) → cut k (a + n) xs ≡ cut k a xs ++ cut k n (drop (k * a) xs)
  unfolding cut
  cut_add zero n xs = rw (zero-add, mul-zero)
  cut_add (suc a) n xs =
      let past : k + k * a ≡ k * suc a = omega arith in
      rw (suc-add, cut_add a n (drop k xs), drop-drop (k * a) k xs, past)

  -- the first a pieces, and the others
  cut_split : (a n : ℕ) (xs : List A) → a ≤ n → cut k n xs ≡ cut k a xs ++ cut k (n - a) (drop (k * a) xs)
  cut_split a n xs h = let both : n ≡ a + (n - a) = omega arith in ap (λ m. cut k m xs) both ∙ cut_add a (n - a) xs

  cut_take : (a n : ℕ) (xs : List A) → a ≤ n → take a (cut k n xs) ≡ cut k a xs
  cut_take a n xs h = rw (cut_split a n xs h, take_at (cut k a xs) (cut k (n - a) (drop (k * a) xs)) a (cut_length a xs))

  cut_drop : (a n : ℕ) (xs : List A) → a ≤ n → drop a (cut k n xs) ≡ cut k (n - a) (drop (k * a) xs)
  cut_drop a n xs h = rw (cut_split a n xs h, drop_at (cut k a xs) (cut k (n - a) (drop (k * a) xs)) a (cut_length a xs))

  -- the pieces before place i, the piece there, and those after it
  cut_at : (i n : ℕ) (xs : List A) → i < n → cut k n xs ≡ cut k i xs ++ take k (drop (k * i) xs) ∷ cut k (n - suc i) (drop (k * i + k) xs)
  unfolding cut
  cut_at i n xs h = let more : n - i ≡ suc (n - suc i) = omega arith in rw (cut_split i n xs (omega arith), more, drop-drop k (k * i) xs)

  -- only the elements of the pieces count
  cut_within : (n m : ℕ) (xs : List A) → k * n ≤ m → cut k n (take m xs) ≡ cut k n xs
  unfolding cut
  cut_within zero m xs h = refl
  cut_within (suc n) m xs h =
      ap₂ ◌∷◌ (take-take k m xs (omega arith)) (rw (← slice_lent k m xs) (cut_within n (m - k) (drop k xs) (omega arith)))

-- ---- the whole pieces of a list

module _ {A : Type 0} (k : ℕ) (xs : List A) where
  pub length_pieces : length (pieces k xs) ≡ length xs / k
  length_pieces = cut_length k (length xs / k) xs

  -- a piece stands in the list
  pub piece_inside : (i : ℕ) → i < length xs / k → k * i + k ≤ length xs
  piece_inside i h = omega (arith, mul-le-mul_left k h, mul-div-le (length xs) k)

  -- the piece at a place
  pub piece_at : (i : ℕ) → i < length xs / k → get_or (pieces k xs) i [] ≡ take k (drop (k * i) xs)
  piece_at i h = rw (cut_at k i (length xs / k) xs h, get_or_at (cut k i xs) _ _ [] i (cut_length k i xs))

  -- the element at place j of the piece at place i
  pub piece_element : (i j : ℕ) (d : A) → i < length xs / k → j < k → get_or (get_or (pieces k xs) i []) j d ≡ get_or xs (k * i + j) d
  piece_element i j d h l = rw (piece_at i h, get_or-take k (drop (k * i) xs) j d l, get_or-drop (k * i) xs j d)

  -- as long as all are
  pub piece_length : (i : ℕ) → i < length xs / k → length (get_or (pieces k xs) i []) ≡ k
  piece_length i h = rw (piece_at i h) (length-take-le k (drop (k * i) xs) (rw length-drop (omega (arith, piece_inside i h))))

  -- as it is lent, from its start to its end
  pub piece_lent : (i : ℕ) → i < length xs / k → take (k * i + k - k * i) (drop (k * i) xs) ≡ get_or (pieces k xs) i []
  piece_lent i h = let e : k * i + k - k * i ≡ k = omega arith in rw (e, piece_at i h)

-- more whole pieces in front
pub pieces_append : {A : Type 0} (k n : ℕ) (xs ys : List A) → 0 < k → length xs ≡ k * n → pieces k (xs ++ ys) ≡ pieces k xs ++ pieces k ys
pieces_append k n xs ys some e =
    let front : cut k n (xs ++ ys) ≡ cut k n xs = sym (cut_within k n (k * n) (xs ++ ys) (le_refl _)) ∙ ap (cut k n) (take_at xs ys (k * n) e) in
    rw (length-append xs ys, e, mul-add-div some n (length ys), mul-div_cancel_left n some, cut_add k n (length ys / k) (xs ++ ys), drop_at xs ys (k * n) e, front) refl

-- one more piece in front
pub pieces_more : {A : Type 0} (k : ℕ) (p xs : List A) → 0 < k → length p ≡ k → pieces k (p ++ xs) ≡ p ∷ pieces k xs
unfolding cut
pieces_more k p xs some e =
    let n : length p ≡ k * 1 = omega (arith, e) in
    let one : pieces k p ≡ p ∷ [] = rw (n, mul-div_cancel_left 1 some, take_all k p (omega (arith, e))) refl in
    pieces_append k 1 p xs some n ∙ rw one refl

-- the pieces of a part that begins and ends at their borders
pub pieces_part : {A : Type 0} (k a e : ℕ) (xs : List A) → 0 < k → a ≤ e → e ≤ length xs / k
    → pieces k (take (k * e - k * a) (drop (k * a) xs)) ≡ slice a e (pieces k xs)
pieces_part k a e xs some h l =
    let n = length xs / k in
    let span : k * e - k * a ≡ k * (e - a) = sym (mul-sub k e a) in
    let inside : k * (e - a) ≤ length (drop (k * a) xs) = rw (length-drop, ← span) (omega (arith, mul-le-mul_left k l, mul-div-le (length xs) k)) in
    rw (
      ← slice_lent a e (pieces k xs),
      span,
      length-take-le (k * (e - a)) (drop (k * a) xs) inside,
      mul-div_cancel_left (e - a) some,
      cut_within k (e - a) (k * (e - a)) (drop (k * a) xs) (le_refl _),
      cut_drop k a n xs (omega arith),
      cut_take k (e - a) (n - a) (drop (k * a) xs) (omega arith),
    )

-- those of the first elements
pub pieces_first : {A : Type 0} (k n : ℕ) (xs : List A) → 0 < k → pieces k (take (k * n) xs) ≡ take n (pieces k xs)
pieces_first k n xs some = go (leb n (length xs / k)) refl
  where
    go : (t : Bool) → leb n (length xs / k) ≡ t → pieces k (take (k * n) xs) ≡ take n (pieces k xs)
    go true q = simp (mul-zero, sub-zero) at (pieces_part k 0 n xs some (omega arith) (leb-true n (length xs / k) q))
    go false q =
        let few = leb-false n (length xs / k) q in
        rw (take_all (k * n) xs (omega (arith, (div-lt_iff_lt-mul some).0 few)), take_all n (pieces k xs) (omega (arith, length_pieces k xs)))

-- ---- a piece stored

module _ {A : Type 0} (k i : ℕ) (xs : List A) (h : i < length xs / k) where
  -- a list that differs in the piece at place i alone
  pub pieces_set : (ys p : List A) → length ys ≡ length xs → take (k * i) ys ≡ take (k * i) xs → drop (k * i + k) ys ≡ drop (k * i + k) xs
      → take k (drop (k * i) ys) ≡ p → pieces k ys ≡ set (pieces k xs) i p
  pieces_set ys p e f g q =
      let n = length xs / k in
      let before : cut k i ys ≡ cut k i xs = sym (cut_within k i (k * i) ys (le_refl _)) ∙ ap (cut k i) f ∙ cut_within k i (k * i) xs (le_refl _) in
      ap (λ l. cut k (l / k) ys) e ∙ rw (cut_at k i n ys h, cut_at k i n xs h, set_at (cut k i xs) _ _ p i (cut_length k i xs), before, g, q)

  -- elements stored one by one
  pub pieces_sets : (p : List A) → length p ≡ k → pieces k (sets xs (k * i) p) ≡ set (pieces k xs) i p
  pieces_sets p e =
      let front = take (k * i) xs in
      let rest = drop (k * i + k) xs in
      let long : length front ≡ k * i = length-take-le (k * i) xs (omega (arith, piece_inside k xs i h)) in
      let whole : sets xs (k * i) p ≡ front ++ p ++ rest = sets-eq p xs (k * i) (rw e (piece_inside k xs i h)) ∙ rw e in
      pieces_set (sets xs (k * i) p) p (length-sets xs (k * i) p) (rw (whole, append_assoc front p rest, take_at front (p ++ rest) (k * i) long))
      (rw (whole, drop_at (front ++ p) rest (k * i + k) (omega (arith, length-append front p))))
      (rw (whole, append_assoc front p rest, drop_at front (p ++ rest) (k * i) long, take_at p rest k e))
