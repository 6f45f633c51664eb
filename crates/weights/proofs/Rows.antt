-- The rows of a round and the sums over them.
use Prim.Native.Nat.{ℕ, ◌*◌, ◌-◌, ◌/◌, ◌^◌, ◌≤◌, ◌<◌}
use mathlib.Core.Path.{◌≡◌, refl, ap, ◌∙◌}
use mathlib.Core.List.{List, [], map, map-map}
use native.Mathlib.Nat.{le_refl}
use native.Mathlib.Omega.{arith}
use lib.ListN.{length, take, drop, length-map, get_or-map}
use lib.Seq.{slice, take_all}
use Rattle.std.specs.List.{sum_by, All}
use Rattle.std.specs.Simd.{first_chunks}
use Rattle.std.proofs.lemmas.List.Elements.{All-from_get_or}
use Rattle.std.proofs.lemmas.List.Recursion.{is_sum_by}
use Rattle.std.proofs.lemmas.List.Sums.{sum_by-take-drop}
use Rattle.std.proofs.lemmas.List.{take-map, drop-map}
use Rattle.probability.specs.Sum.{total}
use Rattle.probability.proofs.Sums.{total_map, map_le}
use Rattle.probability.specs.Pieces.{pieces}
use Rattle.probability.proofs.Pieces.{chunks_pieces, pieces_part}
use Rattle.round.specs.Round.{lift_at, U, measure_from, weight_at, growth, G}
use Rattle.round.specs.Rows.{lift_of_measures, row_length, row_lift, row_lifts}
use Rattle.weights.specs.Scaling.{scaled, WeightsFit, LiftWeightsFit, Balanced}
use Rattle.round.specs.declared.Lift.{Lift}
use Rattle.round.specs.declared.Weight.{Weight}
use Rattle.weights.specs.declared.Scale.{Scale}
use Rattle.round.proofs.WeightSums.{U_sum, dropped_G, G_le}

-- ---- the rows

-- the rows are the library's chunks
pub rows_chunked : (rows : List ℕ) → map row_lift (first_chunks row_length (length rows / row_length) rows) ≡ row_lifts rows
unfolding row_lifts
rows_chunked rows = ap (map row_lift) (chunks_pieces row_length rows)

-- ---- sums over the rows

total_sum : {A : Type 0} (f : A → ℕ) (xs : List A) → total (map f xs) ≡ sum_by f xs
unfolding total
total_sum f = is_sum_by (λ xs. total (map f xs)) f refl (λ _ _. refl)

pub rows_U : (k : ℕ) (rs : List (List ℕ)) {ls : List Lift} → map row_lift rs ≡ ls → U k ls ≡ sum_by (λ row. measure_from k (row_lift row)) rs
rows_U k rs e = rw (← e, U_sum, total_map row_lift (measure_from k) rs) (total_sum (λ row. measure_from k (row_lift row)) rs)

abbrev pub row_growth : Scale → List ℕ → ℕ
row_growth s row = growth (scaled s (row_lift row))

-- the growths of a round's lifts are those of its rows
pub rows_growths : (s : Scale) (rs : List (List ℕ)) {ls : List Lift} → map row_lift rs ≡ ls → map growth (map (scaled s) ls) ≡ map (row_growth s) rs
rows_growths s rs e = rw (← e, map-map growth (scaled s) (map row_lift rs), map-map (λ l. growth (scaled s l)) row_lift rs)

pub rows_G : (s : Scale) (rs : List (List ℕ)) {ls : List Lift} → map row_lift rs ≡ ls → G (map (scaled s) ls) ≡ sum_by (row_growth s) rs
unfolding G
rows_G s rs e = rw (rows_growths s rs e) (total_sum (row_growth s) rs)

-- ---- room

-- where the weights of all have room, so have those of each
pub lift_room : {s : Scale} {ls : List Lift} {i : ℕ} → WeightsFit s ls → i < length ls → LiftWeightsFit s (lift_at ls i)
lift_room {s} {ls} {i} r h = record {
  old = omega (arith, map_le (λ l. (scaled s l).old) (lift_of_measures 0 0 0) ls i h, r.olds);
  new = omega (arith, map_le (λ l. (scaled s l).new) (lift_of_measures 0 0 0) ls i h, r.news);
}

-- and so have those of each row
pub rows_room : {s : Scale} (rs : List (List ℕ)) {ls : List Lift} → map row_lift rs ≡ ls → WeightsFit s ls → All (λ row. LiftWeightsFit s (row_lift row)) rs
rows_room {s} rs e r = All-from_get_or (λ row. LiftWeightsFit s (row_lift row)) rs [] (λ i h. rw (← get_or-map row_lift rs i [], e) (lift_room r (rw (← e, length-map) h)))

-- a part has room if the whole has
slice_le : (f : Lift → ℕ) (a e : ℕ) (ls : List Lift) → total (map f (slice a e ls)) ≤ total (map f ls)
slice_le f a e ls =
    omega (arith, total_sum f (slice a e ls), total_sum f ls, sum_by-take-drop f ls e, sum_by-take-drop f (take e ls) a)

pub block_room : {s : Scale} {ls us : List Lift} (a e : ℕ) → us ≡ slice a e ls → WeightsFit s ls → WeightsFit s us
block_room {s} {ls} a e u r = rw u (record {
  olds = omega (arith, slice_le (λ l. (scaled s l).old) a e ls, r.olds);
  news = omega (arith, slice_le (λ l. (scaled s l).new) a e ls, r.news);
})

-- a part of the rows is that part of the lifts
pub rows_part : (a e : ℕ) (rows : List ℕ) → a ≤ e → e ≤ length rows / row_length
    → row_lifts (take (row_length * e - row_length * a) (drop (row_length * a) rows)) ≡ slice a e (row_lifts rows)
unfolding row_lifts
rows_part a e rows h l =
    let p = pieces row_length rows in
    let part : slice a e (map row_lift p) ≡ map row_lift (slice a e p) = ap (drop a) (take-map row_lift e p) ∙ drop-map row_lift a (take e p) in
    rw part (ap (map row_lift) (pieces_part row_length a e rows (omega arith) h l))

-- and so has the sum of its growths
pub G_room : {s : Scale} {ls : List Lift} (a e : ℕ) → WeightsFit s ls → G (map (scaled s) (slice a e ls)) ≤ 2 ^ 61
G_room {s} {ls} a e r =
    let us = slice a e ls in
    omega (arith, G_le (map (scaled s) us), total_map (scaled s) (λ w. w.new) us, (block_room a e refl r).news)

-- that of all
pub G_fits : {s : Scale} {ls : List Lift} → WeightsFit s ls → G (map (scaled s) ls) ≤ 2 ^ 61
G_fits {s} {ls} r = rw (take_all (length ls) ls (le_refl _)) at (G_room 0 (length ls) r)

-- where the lift at i may be dropped, another grows
pub moves_G : {s : Scale} {ls : List Lift} {i : ℕ} {w : Weight} → Balanced s ls → i < length ls → w ≡ weight_at (map (scaled s) ls) i → w.new < w.old
    → 1 ≤ G (map (scaled s) ls)
moves_G {s} {ls} {i} b h e l =
    dropped_G (map (scaled s) ls) i (rw (total_map (scaled s) (λ w. w.old) ls, total_map (scaled s) (λ w. w.new) ls) b.sums) (rw length-map h) (rw e at l)
