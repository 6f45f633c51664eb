-- The lifts of an initial selection fit, and so does their sheet; their marks are the held lifts that a round's choice starts from.
use Prim.Native.Nat.{ℕ, ◌+◌, ◌≤◌, ◌<◌}
use mathlib.Core.Path.{◌≡◌, refl, ap, ap₂, ◌∙◌}
use mathlib.Core.Bool.{Bool, true, false, cond, ◌&&◌, not}
use mathlib.Core.List.{List, [], ◌∷◌, map, Memᴰ}
use native.Mathlib.Omega.{arith}
use lib.Dec.{eqb, ltb, leb}
use lib.ListN.{length}
use borrow.Author.Tests.{eq-eqb}
use Rattle.probability.specs.Sum.{total_by, indicator}
use Rattle.probability.proofs.Lists.{All}
use Rattle.round.specs.Choice.{is_held}
use Rattle.sheet.specs.Sheet.{most_rounds, Lift, lifts, sheet_of}
use Rattle.tally.specs.Rounds.{lift_count, in_use, held_count}
use Rattle.tally.specs.Verdict.{fits, not_one_held, oversize, zero_sum, crowded, nothing_more, verdict_by}
use Rattle.reply.specs.declared.Refusal.{Refusal}
use Rattle.reply.specs.declared.Refusal.TheVariants.{TooManyDonors}
use Rattle.sheet.specs.Law.{AllWellFormed, WellFormed}
use Rattle.tally.specs.Law.{Nowhere, FitBy}
use Rattle.sheet.specs.Lift.{Old, New}
use Rattle.tally.proofs.Ranges.{filter_ext, filter_has, filter_once}
use Rattle.sheet.proofs.Trips.{written_theorem}
use Rattle.tally.proofs.Verdicts.{decided, fits_sheet}
use Rattle.selection.specs.Choice.{held_of_round, lift_in_round}
use Rattle.selection.specs.Initial.{selections, names, marked}
use Rattle.selection.proofs.Marks.{named_marked, sum_of_marked, in_use_marked, donors_marked, length_marked}
use Rattle.selection.proofs.Held.{sheet_short}
use Rattle.selection.proofs.Naming.{Selected, selected, count, measured, most, least}
use Rattle.selection.proofs.Flags.{flagged}

-- ---- the lifts so marked

-- as many lifts are held as the selection names
held_marked : (m : List Lift) (t : ℕ) (ls : List Lift) → held_count t (marked m ls) ≡ count ls t m
unfolding marked total_by
held_marked m t [] = refl
held_marked m t (l ∷ ls) = ap (λ n. cond (eqb l.old.round t) (indicator (names m l.number)) 0 + n) (held_marked m t ls)

-- they are well-formed, if those named have old measure above 0
listed_marked : (m : List Lift) (n : ℕ) (ls : List Lift) → All (λ l. names m l.number ≡ true → 0 < l.old.measure) ls
    → AllWellFormed n ls → AllWellFormed n (marked m ls)
unfolding marked AllWellFormed
listed_marked m n [] h d = tt
listed_marked m n (l ∷ ls) h (p, d) = (
  record { rises = p.rises; payload = p.payload; old = p.old; new = p.new; newcomer = p.newcomer; held = h l (mathlib.Core.List.Memᴰ.head refl) },
  listed_marked m l.number ls (λ k i. h k (mathlib.Core.List.Memᴰ.tail i)) d,
)

-- ---- they and their sheet fit

-- lifts that fit up to 9, but for their held marks
pub record Unmarked (ls : List Lift) : Type 0 where
  pub well_formed : WellFormed ls
  pub old : Nowhere (oversize Old ls)
  pub new : Nowhere (oversize New ls)
  pub measured : Nowhere (zero_sum ls)

-- marks don't change which rounds have too many donors
pub crowded_marked : (m ls : List Lift) → crowded (marked m ls) ≡ crowded ls
crowded_marked m ls =
    ap (map TooManyDonors) (filter_ext 1 most_rounds (λ r _ _. ap₂ (λ n ds. ltb 0 n && leb 3 (length ds)) (named_marked m New r ls) (donors_marked m r ls)))

module _ {ls : List Lift} (f : Unmarked ls) {m : List Lift} (chosen : Selected ls (in_use Old ls) m) where
  -- one lift is held in each old round in use
  held_marks : (r : ℕ) → 1 ≤ r → r ≤ most_rounds → not_one_held (marked m ls) r ≡ false
  held_marks r l h = rw (named_marked m Old r ls, held_marked m r ls) (go (ltb 0 (lift_count Old r ls)) refl)
    where
      go : (x : Bool) → ltb 0 (lift_count Old r ls) ≡ x → (x && not (eqb (count ls r m) 1)) ≡ false
      go true e =
          let used : Memᴰ r (in_use Old ls) = filter_has (λ t. ltb 0 (lift_count Old t ls)) 1 most_rounds r e l (omega arith) in
          rw (eq-eqb (count ls r m) 1
          (omega (arith, most ls f.well_formed.listed r chosen, filter_once (λ t. ltb 0 (lift_count Old t ls)) 1 most_rounds r, least ls f.well_formed.listed r chosen used)))
      go false e = refl

  -- so marked the lifts fit
  pub fit_marked : {refuses : List Lift → List Refusal} → refuses (marked m ls) ≡ [] → FitBy refuses (marked m ls)
  fit_marked e =
      record {
        well_formed = record {
          listed = listed_marked m 0 ls (measured ls f.well_formed.listed chosen) f.well_formed.listed;
          few = rw (length_marked m ls) f.well_formed.few;
        };
        rounds = record {
          held = held_marks;
          old = λ r l h. rw (sum_of_marked m Old r ls) (f.old r l h);
          new = λ r l h. rw (sum_of_marked m New r ls) (f.new r l h);
          measured = λ r l h. rw (named_marked m New r ls, sum_of_marked m New r ls) (f.measured r l h);
        };
        last = e;
      }

module _ {refuses : List Lift → List Refusal} (ls : List Lift) (f : FitBy refuses ls) (m : List Lift) (i : Memᴰ m (selections ls)) where
  fit : {others : List Lift → List Refusal} → others (marked m ls) ≡ [] → FitBy others (marked m ls)
  fit = fit_marked (record { well_formed = f.well_formed; old = f.rounds.old; new = f.rounds.new; measured = f.rounds.measured }) (selected (in_use Old ls) ls m i)

  pub flags : (r i : ℕ) → (lift_in_round r (marked m ls) i).held ≡ is_held (held_of_round r (marked m ls)) i
  flags = flagged (marked m ls) (fit {others = nothing_more} refl)

  pub back : lifts (sheet_of (marked m ls)) ≡ marked m ls
  back = (written_theorem (marked m ls) (fit {others = nothing_more} refl).well_formed).back

  -- and so does their sheet
  pub marked_fits : refuses (marked m ls) ≡ [] → verdict_by refuses (sheet_of (marked m ls)) ≡ fits (length ls) (length (in_use New ls))
  marked_fits e =
      let g = fit {others = refuses} e in
      (decided refuses (sheet_of (marked m ls))).passes (fits_sheet g (sheet_short g))
      ∙ ap (λ us. fits (length us) (length (in_use New us))) back
      ∙ ap₂ fits (length_marked m ls) (ap length (in_use_marked m New ls))
