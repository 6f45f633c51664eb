-- The rounds of a list of lifts: their sums, held lifts and donors ("The sheet" and "One round" of document 01, with Card 2 of document 02).
use Rattle.std.specs.Prelude.{ℕ, zero, suc, Bool, false, cond, ◌&&◌, ◌||◌, List, [], ◌∷◌, eqb, ltb}
use Rattle.probability.specs.Sum.{total_by, indicator}
use Rattle.probability.specs.Initial.{Initial, here, elsewhere}
use Rattle.sheet.specs.Sheet.{most_rounds, Lift}
use Rattle.sheet.specs.Lift.{place_at, Side}

-- those of the numbers a to a + n - 1 that pass a test
unfoldable pub filter_range : (ℕ → Bool) → ℕ → ℕ → List ℕ
filter_range p a zero = []
filter_range p a (suc n) = cond (p a) (a ∷ filter_range p (suc a) n) (filter_range p (suc a) n)

-- the rounds that pass a test: "rounds 1 to 100"
abbrev pub rounds : (ℕ → Bool) → List ℕ
rounds p = filter_range p 1 most_rounds

-- how many lifts name round r
abbrev pub lift_count : Side → ℕ → List Lift → ℕ
lift_count side r ls = total_by (λ l. (place_at side l).round) (λ _. 1) r ls

-- "Old and new rounds are those from 1 up that some lift names; 0 is neither."
abbrev pub in_use : Side → List Lift → List ℕ
in_use side ls = rounds (λ r. ltb 0 (lift_count side r ls))

-- the "sum of a round's measures"
abbrev pub sum_of : Side → ℕ → List Lift → ℕ
sum_of side r ls = total_by (λ l. (place_at side l).round) (λ l. (place_at side l).measure) r ls

-- how many held lifts an old round has
abbrev pub held_count : ℕ → List Lift → ℕ
held_count r ls = total_by (λ l. l.old.round) (λ l. indicator l.held) r ls

-- whether a lift brings an old measure above 0 from old round t to new round r
abbrev pub brings : ℕ → ℕ → Lift → Bool
brings t r l = eqb l.old.round t && (eqb l.new.round r && ltb 0 l.old.measure)

-- "Old round t is a donor of a new round if it sends it a lift of old measure above 0."
unfoldable pub sends : ℕ → ℕ → List Lift → Bool
sends t r [] = false
sends t r (l ∷ ls) = brings t r l || sends t r ls

-- the donors of a new round, "the different old rounds that send it measure", rising
abbrev pub donors : ℕ → List Lift → List ℕ
donors r ls = rounds (λ t. sends t r ls)

-- the number of an old round among some that are numbered from k up, 0 if it is none of them
abbrev pub number_from : ℕ → List ℕ → ℕ → ℕ
number_from k [] t = 0
number_from k (d ∷ ds) t = cond (eqb d t) k (number_from (suc k) ds t)

-- the number of an old round among the donors: "The lower-numbered donor is donor 1."
abbrev pub donor_number : List ℕ → ℕ → ℕ
donor_number ds t = number_from 1 ds t

-- the lifts of new round r, in lift order
unfoldable pub of_round : ℕ → List Lift → List Lift
of_round r [] = []
of_round r (l ∷ ls) = cond (eqb l.new.round r) (l ∷ of_round r ls) (of_round r ls)

-- one place further
abbrev pub further : Initial → Initial
further (here i) = here (suc i)
further elsewhere = elsewhere

-- where the held lift of old round t stands among some lifts
unfoldable pub held_at : ℕ → List Lift → Initial
held_at t [] = elsewhere
held_at t (l ∷ ls) = cond (l.held && eqb l.old.round t) (here 0) (further (held_at t ls))
