-- The search for the lift in whose interval a position falls: among lifts that are lent, and in a round by blocks of them.
use Prim.Native.Nat.{ℕ, ◌+◌, ◌*◌, ◌-◌, ◌/◌, ◌^◌, ◌≤◌, ◌<◌, min}
use mathlib.Core.Path.{◌≡◌, refl, sym, ap, ◌∙◌}
use mathlib.Core.Bool.{Bool, true, false}
use mathlib.Core.List.{List, [], ◌∷◌, ◌++◌, map, map-map}
use native.Mathlib.Nat.{le_refl}
use native.Mathlib.Numerals.{add-one}
use native.Mathlib.Omega.{arith}
use lib.Dec.{leb}
use lib.ListN.{length, get_or, take, drop, set, drop_of_length-le, length-append, length-map}
use lib.Seq.{drop-cons, take_all, take_at, drop_at}
use borrow.Author.Tests.{leb-true, leb-false}
use Rattle.std.proofs.lemmas.List.{append-nil, map-append, map_more, nil_from_length, take_more_set}
use Rattle.probability.specs.Sum.{total}
use Rattle.probability.specs.Interval.{pick}
use Rattle.probability.specs.Pieces.{cut}
use Rattle.probability.proofs.Intervals.{pick_here, pick_beyond, pick_within, pick_past, pick_lt}
use Rattle.probability.proofs.Pieces.{length_pieces, pieces_append}
use Rattle.round.specs.Round.{growth, G}
use Rattle.round.specs.Rows.{row_length, row_lift, row_lifts}
use Rattle.weights.specs.Scaling.{scaled, WeightsFit, block_length}
use Rattle.round.specs.declared.Lift.{Lift}
use Rattle.weights.specs.declared.Scale.{Scale}
use Rattle.weights.proofs.Rows.{block_room}

-- ---- among lifts that are lent

-- a lift's growth by the multipliers
abbrev pub grows : Scale → Lift → ℕ
grows s l = growth (scaled s l)

pub grows_map : (s : Scale) (ls : List Lift) → map growth (map (scaled s) ls) ≡ map (grows s) ls
grows_map s ls = map-map growth (scaled s) ls

-- what is left of the position falls, from i on, in the interval of the place sought
pub record PickSought {A : Type 0} (f : A → ℕ) (xs : List A) (place left i : ℕ) : Type 0 where
  pub same : i + pick (map f (drop i xs)) left ≡ place

module _ {A : Type 0} (f : A → ℕ) (xs : List A) (d : A) {i w : ℕ} (h : i < length xs) (e : w ≡ f (get_or xs i d)) where
  left_cons : map f (drop i xs) ≡ w ∷ map f (drop (i + 1) xs)
  left_cons = rw (drop-cons xs i d h, e, add-one)

  pub seek_turn : {place left : ℕ} → w ≤ left → PickSought f xs place left i → PickSought f xs place (left - w) (i + 1)
  seek_turn k p = record { same = omega (arith, rw (left_cons, pick_beyond _ _ _ k) at p.same) }

  pub seek_here : {place left : ℕ} → left < w → PickSought f xs place left i → i ≡ place
  seek_here k p = omega (arith, rw (left_cons, pick_here _ _ _ k) at p.same)

pub seek_end : {A : Type 0} {f : A → ℕ} {xs : List A} {i place left : ℕ} → length xs ≤ i → i ≤ length xs → PickSought f xs place left i → length xs ≡ place
unfolding pick
seek_end {xs = xs} {i} h k p = omega (arith, rw (drop_of_length-le xs {i = i} h) at p.same)

-- ---- the lifts of a block, gathered in an array

pub gather_turn : (block : List Lift) (rs : List (List ℕ)) {l : Lift} {i : ℕ} → i < length block → i < length rs → l ≡ row_lift (get_or rs i [])
    → take i block ≡ map row_lift (take i rs) → take (i + 1) (set block i l) ≡ map row_lift (take (i + 1) rs)
gather_turn block rs {l} {i} h k e g = rw (take_more_set block i l h, map_more row_lift rs i [] k, e, g) refl

-- ---- a round in blocks

pub lifts_length : (rows : List ℕ) → length (row_lifts rows) ≡ length rows / row_length
unfolding row_lifts
lifts_length rows = rw length-map (length_pieces row_length rows)

-- the lifts of whole rows, and those behind them
lifts_append : (n : ℕ) (us vs : List ℕ) → length us ≡ row_length * n → row_lifts (us ++ vs) ≡ row_lifts us ++ row_lifts vs
unfolding row_lifts
lifts_append n us vs e = rw (pieces_append row_length n us vs (omega arith) e) (map-append row_lift _ _)

lifts_none : row_lifts [] ≡ []
unfolding row_lifts cut
lifts_none = refl

-- the first block is whole, or all there is
lifts_cut : (us vs : List ℕ) → length us ≡ min (row_length * block_length) (length (us ++ vs)) → row_lifts (us ++ vs) ≡ row_lifts us ++ row_lifts vs
lifts_cut us vs e = go (leb (row_length * block_length) (length (us ++ vs))) refl
  where
    go : (t : Bool) → leb (row_length * block_length) (length (us ++ vs)) ≡ t → row_lifts (us ++ vs) ≡ row_lifts us ++ row_lifts vs
    go true q = lifts_append block_length us vs (omega (arith, e, leb-true _ _ q))
    go false q =
        let none : vs ≡ [] = nil_from_length vs (omega (arith, e, leb-false _ _ q, length-append us vs)) in
        rw (none, append-nil us, lifts_none) (sym (append-nil (row_lifts us)))

-- the growths of lifts
abbrev growths : Scale → List Lift → List ℕ
growths s ls = map growth (map (scaled s) ls)

growths_length : (s : Scale) (ls : List Lift) → length (growths s ls) ≡ length ls
growths_length s ls = rw (length-map, length-map) refl

-- what is left of the position falls, among the rows left, in the interval of the place sought
pub record BlockSought (s : Scale) (rows rest : List ℕ) (place left start : ℕ) : Type 0 where
  pub room : WeightsFit s (row_lifts rest)
  pub long : start + length (row_lifts rest) ≡ length (row_lifts rows)
  pub same : start + pick (map growth (map (scaled s) (row_lifts rest))) left ≡ place

pub block_start : {s : Scale} (rows : List ℕ) {rest : List ℕ} {q : ℕ} → rest ≡ rows → WeightsFit s (row_lifts rows)
    → BlockSought s rows rest (pick (map growth (map (scaled s) (row_lifts rows))) q) q 0
block_start rows e r = rw e (record { room = r; long = omega arith; same = omega arith })

pub block_end : {s : Scale} {rows : List ℕ} (rest : List ℕ) {place left start : ℕ} → length rest ≡ 0 → BlockSought s rows rest place left start → start ≡ place
unfolding pick
block_end rest e d = omega (arith, rw (nil_from_length rest e, lifts_none) at d.same)

-- a block, and the rows left behind it
module _ (us vs : List ℕ) {rest : List ℕ} (e : rest ≡ us ++ vs) {size : ℕ} (z : size ≡ row_length * block_length) (l : length us ≡ min size (length rest)) where
  parts : row_lifts rest ≡ row_lifts us ++ row_lifts vs
  parts = ap row_lifts e ∙ lifts_cut us vs (rw (z, e) at l)

  long_parts : length (row_lifts us) + length (row_lifts vs) ≡ length (row_lifts rest)
  long_parts = omega (arith, ap length parts, length-append (row_lifts us) (row_lifts vs))

  pub block_short : length (row_lifts us) ≤ block_length
  block_short = omega (arith, lifts_length us, rw z at l)

  module _ {s : Scale} {rows : List ℕ} {place left start : ℕ} (d : BlockSought s rows rest place left start) where
    pub own_room : WeightsFit s (row_lifts us)
    own_room = block_room 0 (length (row_lifts us)) (rw parts (sym (take_at (row_lifts us) (row_lifts vs) _ refl))) d.room

    behind_room : WeightsFit s (row_lifts vs)
    behind_room =
        block_room (length (row_lifts us)) (length (row_lifts rest)) (rw (take_all (length (row_lifts rest)) (row_lifts rest) (le_refl _), parts) (sym (drop_at (row_lifts us) (row_lifts vs) _ refl))) d.room

    same_parts : start + pick (growths s (row_lifts us) ++ growths s (row_lifts vs)) left ≡ place
    same_parts = rw (← map-append growth (map (scaled s) (row_lifts us)) (map (scaled s) (row_lifts vs)), ← map-append (scaled s) (row_lifts us) (row_lifts vs), ← parts) d.same

    pub next_fits : {n : ℕ} → n ≡ length (row_lifts us) → length rows < 2 ^ 64 → start + n < 2 ^ 64
    next_fits c m = omega (arith, c, long_parts, d.long, lifts_length rows, m)

    module _ {w : ℕ} (g : w ≡ G (map (scaled s) (row_lifts us))) where
      sums : w ≡ total (growths s (row_lifts us))
      unfolding G
      sums = g

      -- the position falls behind the block
      pub block_turn : {n : ℕ} → n ≡ length (row_lifts us) → w ≤ left → BlockSought s rows vs place (left - w) (start + n)
      block_turn {n} c k =
          let past = rw (← sums) at (pick_past (growths s (row_lifts us)) (growths s (row_lifts vs)) left (rw sums at k)) in
          record { room = behind_room; long = omega (arith, d.long, long_parts, c); same = omega (arith, same_parts, past, c, growths_length s (row_lifts us)) }

      -- it falls in the block
      module _ {p : ℕ} (k : left < w) (x : p ≡ pick (map growth (map (scaled s) (row_lifts us))) left) where
        pub block_here : start + p ≡ place
        block_here = omega (arith, x, same_parts, pick_within (growths s (row_lifts us)) (growths s (row_lifts vs)) left (rw sums at k))

        pub block_fits : length rows < 2 ^ 64 → start + p < 2 ^ 64
        block_fits m =
            omega (arith, x, pick_lt (growths s (row_lifts us)) left (rw sums at k), growths_length s (row_lifts us), long_parts, d.long, lifts_length rows, m)
