-- The tables by round, as the code gathers them.
use Rattle.std.specs.Prelude.{ℕ, zero, suc, ◌+◌, ◌*◌, ◌%◌, ◌^◌, ◌<◌, Bool, ◌&&◌, ◌≡◌, List, [], ◌∷◌, Option, Some, None, eqb, ltb, get_or}
use Rattle.std.specs.Int.Count.{ones}
use Rattle.probability.specs.Sum.{indicator}
use Rattle.sheet.specs.Sheet.{most_rounds, Lift}
use Rattle.tally.specs.Rounds.{lift_count, sum_of, held_count, sends}
use Rattle.sheet.specs.Lift.{Old, New}
use Rattle.sheet.specs.declared.Entry.{Entry}
use Rattle.tally.specs.declared.OldRound.{OldRound}
use Rattle.tally.specs.declared.NewRound.{NewRound}
use Rattle.tally.specs.declared.Tallies.{Tallies}

-- f 0, f 1, .. f (n - 1)
unfoldable pub tabulate : {A : Type 0} → ℕ → (ℕ → A) → List A
tabulate zero f = []
tabulate (suc n) f = f 0 ∷ tabulate n (λ i. f (suc i))

-- an entry for each round from 0 up
abbrev pub table : {A : Type 0} → (ℕ → A) → List A
table f = tabulate (most_rounds + 1) f

-- the number whose bit t, for t below n, is set if t passes a test
unfoldable pub bits : ℕ → (ℕ → Bool) → ℕ
bits zero p = 0
bits (suc n) p = indicator (p 0) + 2 * bits n (λ t. p (suc t))

-- the bit of an old round in its word of 64 bits, if a lift brings measure from it
abbrev pub bit_of : (round measure : ℕ) → ℕ
bit_of round measure = bits 64 (λ t. eqb (round % 64) t && ltb 0 measure)

-- two words for new round r, with a bit for each old round, 0 to 63 and 64 to 127, that is set if it is a donor
abbrev pub donor_bits : ℕ → List Lift → List ℕ
donor_bits r ls = bits 64 (λ t. sends t r ls) ∷ bits 64 (λ t. sends (64 + t) r ls) ∷ []

-- "the different old rounds that send it measure are counted": how many bits are set in the two words
abbrev pub donor_count : List ℕ → ℕ
donor_count words = ones (get_or words 0 0) + ones (get_or words 1 0)

-- what some lifts make of an old round
abbrev pub old_round : List Lift → ℕ → OldRound
old_round ls r = record { lifts = lift_count Old r ls; held = held_count r ls; sum = sum_of Old r ls }

-- and of a new round
abbrev pub new_round : List Lift → ℕ → NewRound
new_round ls r = record { lifts = lift_count New r ls; sum = sum_of New r ls; donors = donor_bits r ls }

-- the tables of some lifts
pub record Tabled (ls : List Lift) (t : Tallies) : Type 0 where
  pub old : t.old ≡ table (old_round ls)
  pub new : t.new ≡ table (new_round ls)

-- whether one more lift fits in the numbers of its old and its new round
pub record Room (o : OldRound) (n : NewRound) (l : Entry) : Type 0 where
  pub old_lifts : o.lifts + 1 < 2 ^ 64
  pub held : o.held + indicator l.held < 2 ^ 64
  pub old_sum : o.sum + l.old < 2 ^ 64
  pub new_lifts : n.lifts + 1 < 2 ^ 64
  pub new_sum : n.sum + l.new < 2 ^ 64

-- the first of some rounds, if there is one
abbrev pub found_first : List ℕ → Option ℕ
found_first [] = None
found_first (r ∷ rs) = Some r
