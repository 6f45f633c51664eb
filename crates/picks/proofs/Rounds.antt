-- A new round of lifts that fit, from the layout of their rows: its donors, lifts and held lifts are those of the definitions.
use Prim.Native.Nat.{ℕ, zero, suc, ◌+◌, ◌*◌, ◌-◌, ◌/◌, ◌^◌, ◌≤◌, ◌<◌}
use mathlib.Core.Path.{◌≡◌, refl, sym, ap, ap₂, ◌∙◌}
use mathlib.Core.Bool.{Bool, true, false, cond}
use mathlib.Core.List.Memᴰ
use mathlib.Core.List.{List, [], ◌∷◌, map}
use native.Mathlib.Nat.{mul-div_cancel_left}
use native.Mathlib.Omega.{arith}
use lib.Dec.{eqb, ltb}
use lib.ListN.{length, get_or, take, drop, length-drop}
use Rattle.std.specs.Prelude.{Some, IfSome, slice_get}
use lib.Seq.{length-take-le}
use borrow.Author.Tests.{eq-eqb, eqb-true, ltb-true, ltb-false, lt-ltb, le-ltb}
use Rattle.probability.specs.Sum.{indicator}
use Rattle.probability.specs.Initial.{Initial}
use Rattle.probability.specs.Pieces.{pieces}
use Rattle.probability.proofs.Lists.{All}
use Rattle.probability.proofs.Pieces.{pieces_part}
use Rattle.draw.specs.Draw.{largest}
use Rattle.draw.specs.Run.{run, answer}
use Rattle.round.specs.Round.{U, whole_sums}
use Rattle.round.specs.Choice.{Update, initial_at, preliminary_by, plan_by, selected_by}
use Rattle.round.specs.declared.Donors.{Donors}
use Rattle.round.specs.declared.Held.{Held}
use Rattle.round.specs.declared.Lift.{Lift as RoundLift}
use Rattle.round.specs.Rows.{row_lift, row_lifts as lifts_of_rows, initials, Callable, row_length}
use Rattle.weights.specs.Scaling.{HasSums}
use Rattle.weights.specs.declared.Sums.{Sums}
use Rattle.round.proofs.Laws.{stands_two}
use Rattle.sheet.specs.Sheet.{most_lifts, most_rounds, kind, payload, held_kind, Lift}
use Rattle.tally.specs.Rounds.{lift_count, sum_of, donors, donor_number, of_round, held_at}
use Rattle.tally.specs.Tables.{old_round, new_round, Tabled}
use Rattle.tally.specs.declared.NewRound.{NewRound}
use Rattle.tally.specs.declared.OldRound.{OldRound}
use Rattle.tally.specs.declared.Tallies.{Tallies}
use Rattle.rows.specs.Rows.{lifts_below, first_donors, row_of, round_at, Laid}
use Rattle.rows.specs.declared.LaidRound.{LaidRound}
use Rattle.tally.specs.Law.{Fit}
use Rattle.sheet.specs.Lift.{Old, New}
use Rattle.rows.specs.declared.Layout.{Layout}
use Rattle.tally.proofs.Ranges.{Rising}
use Rattle.tally.proofs.Tables.{tabulate_at}
use Rattle.rows.proofs.Placing.{below_le, below_suc, named_length, row_number, row_held}
use Rattle.selection.specs.Choice.{with_sums, donors_of, in_round, lifts_of, held_of_round, plan_of, no_lift, lift_in_round}
use Rattle.selection.proofs.Held.{proper, held_exactly}
use Rattle.selection.proofs.Flags.{of_round_all}
use Rattle.selection.proofs.Sums.{U_by_number}
use Rattle.selection.proofs.RoundsFit.{Donor, donors_rise, donors_few, S_round, round_fits, round_bounded, round_stands}
use Rattle.selection.proofs.Selections.{sends_named}
use Rattle.picks.specs.Choosing.{up_to_two, donors_at, old_sum, initial_by, initials_at}

-- ---- the lifts of rows

-- at most two donors are the first two
firsts_all : (ds : List ℕ) → length ds ≤ 2 → take 2 ds ≡ ds
firsts_all [] h = refl
firsts_all (d ∷ []) h = refl
firsts_all (d ∷ e ∷ []) h = refl
firsts_all (d ∷ e ∷ c ∷ ds) h = absurd (omega arith)

-- the rows of a round's lifts are its lifts, if its donors are the first two
rows_lifts : (whole : List Lift) (r : ℕ) → first_donors r whole ≡ donors r whole → (ls : List Lift)
    → map row_lift (map (row_of whole) (of_round r ls))
    ≡ map (in_round (donor_number (donors r whole))) (of_round r ls)
unfolding of_round
rows_lifts whole r k [] = refl
rows_lifts whole r k (l ∷ ls) = go (eqb l.new.round r) refl (rows_lifts whole r k ls)
  where
    of : Lift → RoundLift
    of = in_round (donor_number (donors r whole))

    go : (t : Bool) → eqb l.new.round r ≡ t → map row_lift (map (row_of whole) (of_round r ls)) ≡ map of (of_round r ls)
        → map row_lift (map (row_of whole) (cond t (l ∷ of_round r ls) (of_round r ls))) ≡ map of (cond t (l ∷ of_round r ls) (of_round r ls))
    go true q ih = rw (eqb-true l.new.round r q, k, ih)
    go false q ih = ih

-- a plan looks at the held lifts of the first two donors alone
plan_two : (update : Update) (ds : Donors) (us : List RoundLift) (xs : List Initial) → plan_by update ds us (initial_at xs 0 ∷ initial_at xs 1 ∷ []) ≡ plan_by update ds us xs
unfolding plan_by preliminary_by
plan_two update ds us xs = refl

-- ---- one round of a layout

-- what is lent: the layout of lifts that fit, and their tables
pub record Lent (ls : List Lift) (rows : List ℕ) (x : Layout) (t : Tallies) : Type 0 where
  pub fit : Fit ls
  pub long : length rows ≡ row_length * length ls
  pub laid : Laid ls rows x
  pub tabled : Tabled ls t

-- rounds without lifts
abbrev no_old : OldRound
no_old = record { lifts = 0; held = 0; sum = 0 }

abbrev no_new : NewRound
no_new = record { lifts = 0; sum = 0; donors = [] }

-- the sum of a new round in its table
abbrev new_sum : List NewRound → ℕ → ℕ
new_sum news r = (get_or news r no_new).sum

-- its rows, as a part of an array
abbrev pub part_of : Layout → ℕ → List ℕ → List ℕ
part_of x r rows =
    let y = round_at x.rounds r in
    take (row_length * y.end - row_length * y.begin) (drop (row_length * y.begin) rows)

-- its donors, with their old sums, and where their held lifts are
abbrev pub donors_in : Layout → Tallies → ℕ → Donors
donors_in x t r = with_sums (map (old_sum t.old) (donors_at (round_at x.rounds r)))

abbrev pub initials_in : Layout → ℕ → List Initial
initials_in x r = initials_at (round_at x.rounds r) x.seats

-- whether rows are empty
pub filled : {n : ℕ} {b : Bool} → b ≡ eqb n 0 → b ≡ false → n ≡ 0 → ⊥
filled {n} e f z = let t : true ≡ false = sym (eq-eqb n 0 z) ∙ sym e ∙ f in let o : ◌≡◌ {A = ℕ} 0 1 = cc in omega arith

pub empty : {n : ℕ} {b : Bool} → b ≡ eqb n 0 → b ≡ true → n ≡ 0
empty {n} e f = eqb-true n 0 (sym e ∙ f)

-- the first numbers of rows
marks_are : (ls us : List Lift) → All (λ l. l.number < 2 ^ 28) us → (i : ℕ)
    → let mark = get_or (get_or (map (row_of ls) us) i []) 0 0 in
    (payload mark ≡ (get_or us i no_lift).number) × (eqb (kind mark) held_kind ≡ (get_or us i no_lift).held)
marks_are ls [] h i = (refl, refl)
marks_are ls (u ∷ us) h zero = let p = h u (Memᴰ.head refl) in (row_number u p, row_held u p)
marks_are ls (u ∷ us) h (suc i) = marks_are ls us (λ l m. h l (Memᴰ.tail m)) i

module _ {ls : List Lift} {rows : List ℕ} {x : Layout} {t : Tallies} (d : Lent ls rows x t) {r : ℕ} (low : 1 ≤ r) (high : r ≤ most_rounds) where
  abbrev round : LaidRound
  round = round_at x.rounds r

  begin : round.begin ≡ lifts_below r ls
  begin = d.laid.spans.begin r high

  end : round.end ≡ lifts_below (suc r) ls
  end = d.laid.spans.end r high

  -- it ends behind its lifts, inside the rows
  ends : round.end ≡ round.begin + lift_count New r ls
  ends = end ∙ sym (below_suc r ls) ∙ ap₂ ◌+◌ (sym begin) (sym (named_length r ls))

  inside : round.end ≤ length ls
  inside = omega (arith, end, below_le (suc r) ls)

  -- places that fit 64 bits
  pub rises : round.begin ≤ round.end
  rises = omega (arith, ends)

  pub few : round.end ≤ most_lifts
  few = omega (arith, inside, d.fit.well_formed.few)

  pub part_end : row_length * round.end ≤ length rows
  part_end = omega (arith, inside, d.long)

  many : length rows / row_length ≡ length ls
  many = rw d.long (mul-div_cancel_left (length ls) (omega arith))

  -- its rows are its lifts'
  part_pieces : pieces row_length (part_of x r rows) ≡ map (row_of ls) (of_round r ls)
  part_pieces =
      pieces_part row_length round.begin round.end rows (omega arith) (omega (arith, ends)) (omega (arith, many, inside))
      ∙ rw (begin, end) (d.laid.rows.parts r high)

  pub part_length : length (part_of x r rows) ≡ row_length * lift_count New r ls
  part_length = length-take-le (row_length * round.end - row_length * round.begin) (drop (row_length * round.begin) rows) (rw (length-drop (row_length * round.begin) rows) (omega (arith, d.long, ends, inside))) ∙ omega (arith, ends)

  -- so it has lifts exactly if it has rows
  pub no_lifts : length (part_of x r rows) ≡ 0 → ltb 0 (lift_count New r ls) ≡ false
  no_lifts h = le-ltb 0 (lift_count New r ls) (omega (arith, h, part_length))

  pub some_lifts : (length (part_of x r rows) ≡ 0 → ⊥) → ltb 0 (lift_count New r ls) ≡ true
  some_lifts h = go (ltb 0 (lift_count New r ls)) refl
    where
      go : (b : Bool) → ltb 0 (lift_count New r ls) ≡ b → b ≡ true
      go true e = refl
      go false e = absurd (h (omega (arith, part_length, ltb-false 0 (lift_count New r ls) e)))

  -- the number and the mark of each of its lifts
  pub mark_is : (i : ℕ) → let mark = get_or (get_or (pieces row_length (part_of x r rows)) i []) 0 0 in
      (payload mark ≡ (lift_in_round r ls i).number) × (eqb (kind mark) held_kind ≡ (lift_in_round r ls i).held)
  unfolding lift_in_round
  mark_is i =
      rw part_pieces
      (marks_are ls (of_round r ls) (of_round_all (λ l. l.number < 2 ^ 28) r ls (λ l m _. (proper 0 ls d.fit.well_formed.listed l m).payload)) i)

  lifts_are : lifts_of_rows (part_of x r rows) ≡ lifts_of r ls
  unfolding lifts_of_rows lifts_of
  lifts_are = rw part_pieces (rows_lifts ls r (firsts_all (donors r ls) (donors_few d.fit low high)) ls)

  sum_is : (u : ℕ) → u ≤ most_rounds → old_sum t.old u ≡ sum_of Old u ls
  sum_is u h = ap (λ olds. old_sum olds u) d.tabled.old ∙ ap (λ y. y.sum) (tabulate_at no_old (most_rounds + 1) (old_round ls) u (omega arith))

  -- and so are its sums
  sent_is : (k : ℕ) → k ≤ 2 → get_or round.sent k 0 ≡ U k (lifts_of r ls)
  unfolding lifts_of
  sent_is k h =
      rw (U_by_number, ← firsts_all (donors r ls) (donors_few d.fit low high)) (d.laid.sent.part r k high h)

  pub sums_are : (ds : Donors) {y : Sums} → y ≡ record { new = new_sum t.new r; first = get_or round.sent 1 0; second = get_or round.sent 2 0 }
      → HasSums ds (lifts_of_rows (part_of x r rows)) y
  sums_are ds f =
      rw (f, lifts_are)
      (record {
        new = ap (λ news. new_sum news r) d.tabled.new ∙ ap (λ y. y.sum) (tabulate_at no_new (most_rounds + 1) (new_round ls) r (omega arith)) ∙ sym (S_round d.fit low high);
        first = λ _. sent_is 1 (omega arith);
        second = λ _. sent_is 2 (omega arith);
      })

  -- the layout gives its donors
  first_is : round.first ≡ slice_get (donors r ls) 0
  first_is = d.laid.donors.first r high

  second_is : round.second ≡ slice_get (donors r ls) 1
  second_is = d.laid.donors.second r high

  donors_given : donors_at round ≡ donors r ls
  donors_given = rw (first_is, second_is) (go (donors r ls) (donors_few d.fit low high))
    where
      go : (ds : List ℕ) → length ds ≤ 2 → up_to_two (slice_get ds 0) (slice_get ds 1) ≡ ds
      go [] h = refl
      go (t ∷ []) h = refl
      go (t ∷ u ∷ []) h = refl
      go (t ∷ u ∷ v ∷ ds) h = absurd (omega arith)

  -- what is the same of each donor is the same of all
  each_donor : {A : Type 0} (f g : ℕ → A) → ((t : ℕ) → Donor r ls t → f t ≡ g t) → (a : ℕ) (ds : List ℕ) → Rising (Donor r ls) a ds → map f ds ≡ map g ds
  each_donor f g h a [] s = refl
  each_donor f g h a (t ∷ ds) s = ap₂ ◌∷◌ (h t s.1) (each_donor f g h (suc t) ds s.2)

  -- each is a round that the tables have
  pub named : IfSome round.first (λ u. u ≤ most_rounds) × IfSome round.second (λ u. u ≤ most_rounds)
  named = rw (first_is, second_is) (go (donors r ls) (donors_rise r ls))
    where
      go : (ds : List ℕ) → Rising (Donor r ls) 1 ds → IfSome (slice_get ds 0) (λ u. u ≤ most_rounds) × IfSome (slice_get ds 1) (λ u. u ≤ most_rounds)
      go [] s = (tt, tt)
      go (t ∷ []) s = (s.1.high, tt)
      go (t ∷ u ∷ ds) s = (s.1.high, s.2.1.high)

  donors_are : donors_in x t r ≡ donors_of r ls
  unfolding donors_of
  donors_are = rw donors_given (ap with_sums (each_donor (old_sum t.old) (λ u. sum_of Old u ls) (λ u e. sum_is u e.high) 1 (donors r ls) (donors_rise r ls)))

  -- a donor has one held lift, which stands at its seat
  seat_is : (u : ℕ) → Donor r ls u → initial_by round x.seats (Some u) ≡ held_at u (of_round r ls)
  seat_is u e =
      rw (begin, end)
      (d.laid.seats.seat u e.high (held_exactly ls u (d.fit.rounds.held u e.low e.high) ∙ ap indicator (lt-ltb 0 (lift_count Old u ls) (sends_named u r ls e.sends))) r high)

  -- where the held lifts of its first two donors are
  initials_are : (k : ℕ) → initial_by round x.seats (slice_get (donors r ls) k) ≡ initial_at (held_of_round r ls) k
  unfolding held_of_round
  initials_are k = go k 1 (donors r ls) (donors_rise r ls)
    where
      go : (k a : ℕ) (ds : List ℕ) → Rising (Donor r ls) a ds → initial_by round x.seats (slice_get ds k) ≡ initial_at (map (λ u. held_at u (of_round r ls)) ds) k
      go k a [] s = refl
      go zero a (u ∷ ds) s = seat_is u s.1
      go (suc k) a (u ∷ ds) s = go k (suc u) ds s.2

  both_initials : initials_in x r ≡ initial_at (held_of_round r ls) 0 ∷ initial_at (held_of_round r ls) 1 ∷ []
  both_initials = rw (first_is, second_is) (ap₂ (λ a b. a ∷ b ∷ []) (initials_are 0) (initials_are 1))

  pub callable : {ds : Donors} {h : Held} → ds ≡ donors_in x t r → initials h ≡ initials_in x r → (length (part_of x r rows) ≡ 0 → ⊥) → Callable ds (lifts_of_rows (part_of x r rows)) h
  callable e f h =
      rw (e, donors_are, lifts_are)
      (record {
        fitting = round_fits d.fit low high (omega (arith, ltb-true 0 (lift_count New r ls) (some_lifts h)));
        bounded = round_bounded d.fit low high;
        stands = rw (f, both_initials) (stands_two (whole_sums (donors_of r ls)) (held_of_round r ls) (length (lifts_of r ls)) (round_stands d.fit low high));
      })

  -- the choice of its rows is that of its plan
  pub selected_is : (update : Update) {ds : Donors} (h : Held) → ds ≡ donors_in x t r → initials h ≡ initials_in x r → (ws : List ℕ) (at : ℕ)
      → selected_by update ds (lifts_of_rows (part_of x r rows)) (initials h) ws at ≡ answer (run largest ws at (plan_of update r ls))
  unfolding plan_of
  selected_is update h e f ws at = rw (e, f, donors_are, lifts_are, both_initials, plan_two)
