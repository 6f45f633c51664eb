-- The choices of lifts that fit: their rounds rise, and each number has its bound. By induction along the rounds and the lifts.
use Prim.Native.Nat.{ℕ, zero, suc, ◌^◌, ◌≤◌, ◌<◌}
use mathlib.Core.Bool.{Bool, true, false, cond}
use mathlib.Core.List.{List, [], ◌∷◌}
use native.Mathlib.Omega.{arith}
use lib.Dec.{eqb, ltb}
use lib.ListN.{length, get_or}
use Rattle.probability.proofs.Lists.{All, all_none, all_more}
use Rattle.round.proofs.Laws.{outcome_between}
use Rattle.sheet.specs.Sheet.{most_rounds, Lift}
use Rattle.tally.specs.Rounds.{lift_count, in_use, of_round}
use Rattle.sheet.specs.Law.{AllWellFormed}
use Rattle.tally.specs.Law.{FitBy}
use Rattle.reply.specs.declared.Refusal.{Refusal}
use Rattle.sheet.specs.Lift.{New}
use Rattle.tally.proofs.Ranges.{Rising, filter_few, filter_rise}
use Rattle.selection.specs.Choice.{lift_in_round, no_lift, Way, Choice}
use Rattle.selection.proofs.Steps.{Steps, none, some}

-- lift numbers have room in a word's payload
number_small : (n r : ℕ) (ls : List Lift) → AllWellFormed n ls → (i : ℕ) → (get_or (of_round r ls) i no_lift).number < 2 ^ 28
unfolding of_round AllWellFormed
number_small n r [] d i = omega arith
number_small n r (l ∷ ls) d i = go (eqb l.new.round r) i (number_small l.number r ls d.1)
  where
    go : (t : Bool) (i : ℕ) → ((k : ℕ) → (get_or (of_round r ls) k no_lift).number < 2 ^ 28) → (get_or (cond t (l ∷ of_round r ls) (of_round r ls)) i no_lift).number < 2 ^ 28
    go true zero ih = d.0.payload
    go true (suc i) ih = ih i
    go false i ih = ih i

-- a choice of a round that a table has, with a number and an outcome that have room in a pair
pub record Sound (c : Choice) : Type 0 where
  pub upto : c.round ≤ most_rounds
  pub number : c.number < 2 ^ 28
  pub some : 1 ≤ c.outcome
  pub most : c.outcome ≤ 3

-- choices of rising rounds from r up
abbrev pub Rises : ℕ → List Choice → Type 0
Rises r [] = Unit {0}
Rises r (c ∷ cs) = (r ≤ c.round) × Sound c × Rises (suc c.round) cs

pub rises_sound : (a : ℕ) (cs : List Choice) → Rises a cs → All Sound cs
rises_sound a [] d = all_none Sound
rises_sound a (c ∷ cs) d = all_more Sound d.1 (rises_sound (suc c.round) cs d.2)

-- those of rising rounds
steps_rise : {way : Way} {ls : List Lift} {ws : List ℕ} {from next : ℕ} {rs : List ℕ} {cs : List Choice} → AllWellFormed 0 ls → Steps way ls ws from rs cs next
    → (a : ℕ) → Rising (λ r. r ≤ most_rounds) a rs → Rises a cs
unfolding lift_in_round
steps_rise d none a k = tt
steps_rise {ls = ls} d (some {r = r} {s = s} q rest) a k =
    let o = outcome_between (lift_in_round r ls s.place).held s.dropped in (
      k.0,
      record {
        upto = k.1;
        number = number_small 0 r ls d s.place;
        some = o.0;
        most = o.1;
      },
      steps_rise d rest (suc r) k.2,
    )

-- those of all new rounds
pub panel_rises : {refuses : List Lift → List Refusal} {way : Way} {ls : List Lift} {ws : List ℕ} {start next : ℕ} {cs : List Choice} → FitBy refuses ls → Steps way ls ws start (in_use New ls) cs next → Rises 1 cs
panel_rises {ls = ls} f k = steps_rise f.well_formed.listed k 1 (filter_rise (λ r. r ≤ most_rounds) (λ r. ltb 0 (lift_count New r ls)) 1 most_rounds (λ r l m e. omega arith))

-- which are few
pub few_rounds : (ls : List Lift) → length (in_use New ls) ≤ most_rounds
few_rounds ls = filter_few (λ r. ltb 0 (lift_count New r ls)) 1 most_rounds
