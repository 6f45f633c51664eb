-- The donors of a round as bits: counting them counts the donors.
use Prim.Native.Nat.{ℕ, ◌+◌, ◌-◌, ◌*◌, ◌<◌}
use mathlib.Core.Path.{◌≡◌, refl, sym, ap, ◌∙◌}
use mathlib.Core.Bool.{Bool, true, false, cond, ◌&&◌, ◌||◌, and-false}
use mathlib.Core.List.{List, [], ◌∷◌}
use native.Mathlib.Omega.{arith}
use lib.Dec.{eqb, leb, ltb}
use lib.ListN.{length}
use borrow.Author.Tests.{le-ltb, ltb-false, ne_eqb, eqb-true}
use Rattle.probability.specs.Sum.{over, Σ, total_by, indicator}
use Rattle.probability.proofs.Sums.{over_ext, Σ-cut, Σ-const}
use Rattle.sheet.specs.Sheet.{most_rounds, old_kind, Lift, lifts}
use Rattle.sheet.specs.Reading.{Legible}
use Rattle.tally.specs.Rounds.{lift_count, brings, sends, donors}
use Rattle.tally.specs.Verdict.{too_many_donors}
use Rattle.tally.specs.Tables.{donor_bits, donor_count}
use Rattle.sheet.specs.Law.{PlaceWellFormed, AllWellFormed}
use Rattle.sheet.specs.Lift.{New}
use Rattle.tally.proofs.Bits.{bits_ones}
use Rattle.tally.proofs.Ranges.{filter_count, filter_none}
use Rattle.sheet.proofs.Trips.{read_theorem}

-- ---- counted

pub sends_none : (t r : ℕ) → ((l : Lift) → PlaceWellFormed old_kind l.old → brings t r l ≡ false) → (n : ℕ) (ls : List Lift) → AllWellFormed n ls → sends t r ls ≡ false
unfolding sends AllWellFormed
sends_none t r h n [] d = refl
sends_none t r h n (l ∷ ls) d = rw (h l d.0.old) (sends_none t r h l.number ls d.1)

-- a round that no lift names is sent nothing
sends_unnamed : (t r : ℕ) (ls : List Lift) → lift_count New r ls ≡ 0 → sends t r ls ≡ false
unfolding sends total_by
sends_unnamed t r [] h = refl
sends_unnamed t r (l ∷ ls) h = go (eqb l.new.round r) h (sends_unnamed t r ls)
  where
    go : (p : Bool) → cond p 1 0 + lift_count New r ls ≡ 0 → (lift_count New r ls ≡ 0 → sends t r ls ≡ false)
        → (eqb l.old.round t && (p && ltb 0 l.old.measure)) || sends t r ls ≡ false
    go true k ih = absurd (omega arith)
    go false k ih = rw (and-false (eqb l.old.round t)) (ih (omega arith))

-- so refusal 10 goes by the count of donors alone
pub too_many_donors_count : (ls : List Lift) (r : ℕ) → too_many_donors ls r ≡ leb 3 (length (donors r ls))
too_many_donors_count ls r = go (ltb 0 (lift_count New r ls)) refl
  where
    go : (p : Bool) → ltb 0 (lift_count New r ls) ≡ p → p && leb 3 (length (donors r ls)) ≡ leb 3 (length (donors r ls))
    go true e = refl
    go false e =
        let unnamed : lift_count New r ls ≡ 0 = omega (arith, ltb-false 0 (lift_count New r ls) e) in
        rw (filter_none (λ t. sends t r ls) 1 most_rounds (λ t _ _. sends_unnamed t r ls unnamed))

pub at_most_two : (ls : List Lift) (r : ℕ) → too_many_donors ls r ≡ false → leb 3 (length (donors r ls)) ≡ false
at_most_two ls r e = sym (too_many_donors_count ls r) ∙ e

-- a newcomer brings no measure
pub from_nowhere : (r : ℕ) (l : Lift) → PlaceWellFormed old_kind l.old → brings 0 r l ≡ false
from_nowhere r l p = go (eqb l.old.round 0) refl
  where
    go : (t : Bool) → eqb l.old.round 0 ≡ t → t && (eqb l.new.round r && ltb 0 l.old.measure) ≡ false
    go true e = rw (le-ltb 0 l.old.measure (omega (arith, p.nowhere (eqb-true l.old.round 0 e)))) (and-false (eqb l.new.round r))
    go false e = refl

-- and no lift comes from a round beyond the last
pub from_beyond : (t r : ℕ) → most_rounds < t → (l : Lift) → PlaceWellFormed old_kind l.old → brings t r l ≡ false
from_beyond t r h l p = rw (ne_eqb l.old.round t (λ e. omega (arith, p.round)))

one_term : (f : ℕ → ℕ) → Σ 1 f ≡ f 0 + 0
unfolding over
one_term f = refl

-- what two words count is counted from 1 up, if nothing is counted at 0 and beyond the last round
two_words : (f : ℕ → ℕ) → f 0 ≡ 0 → ((i : ℕ) → f (1 + (most_rounds + i)) ≡ 0) → Σ 64 f + Σ 64 (λ t. f (64 + t)) ≡ Σ most_rounds (λ t. f (1 + t))
two_words f none beyond =
    let rest : ℕ = 127 - most_rounds in
    let e : Σ rest (λ i. f (1 + (most_rounds + i))) ≡ rest * 0 = over_ext ◌+◌ 0 rest (λ i h. beyond i) ∙ Σ-const rest 0 in
    omega (arith, Σ-cut 64 64 f, Σ-cut 1 127 f, one_term f, Σ-cut most_rounds rest (λ t. f (1 + t)))

pub donors_count : (ws : List ℕ) → Legible ws → (r : ℕ) → donor_count (donor_bits r (lifts ws)) ≡ length (donors r (lifts ws))
donors_count ws l r =
    let d = (read_theorem ws l.read).well_formed.listed in
    rw (bits_ones, bits_ones, filter_count)
    (two_words (λ t. indicator (sends t r (lifts ws))) (ap indicator (sends_none 0 r (from_nowhere r) 0 (lifts ws) d))
    (λ i. ap indicator (sends_none (1 + (most_rounds + i)) r (from_beyond (1 + (most_rounds + i)) r (omega arith)) 0 (lifts ws) d)))
