-- The choices of lifts that fit, in a table by round: their rounds rise, so each keeps its place.
use Prim.Native.Nat.{ℕ, zero, suc, ◌+◌, ◌<◌}
use mathlib.Core.Path.{◌≡◌, refl, ◌∙◌}
use mathlib.Core.List.{List, [], ◌∷◌, ◌++◌}
use native.Mathlib.Omega.{arith}
use lib.ListN.{length, get_or, set, replicate, length-set}
use lib.Seq.{get_or-set_same, get_or-set_other}
use Rattle.std.specs.Prelude.{Option, None, Some}
use Rattle.sheet.specs.Sheet.{most_rounds}
use Rattle.selection.specs.declared.Pick.{Pick}
use Rattle.selection.specs.Choice.{Choice, pick_of, by_round, none_chosen}
use Rattle.selection.proofs.Choices.{Sound, Rises}

-- no lift at first
none_at : (n i : ℕ) → ◌≡◌ {A = Option Pick} (get_or (replicate n None) i None) None
none_at zero i = refl
none_at (suc n) zero = refl
none_at (suc n) (suc i) = none_at n i

pub none_chosen_at : (i : ℕ) → get_or none_chosen i None ≡ None
none_chosen_at i = none_at (most_rounds + 1) i

-- one lift more in a table of which each has a property
set_each : (P : Option Pick → Type 0) (xs : List (Option Pick)) (k : ℕ) {v : Option Pick} → P v → ((i : ℕ) → P (get_or xs i None)) → (i : ℕ) → P (get_or (set xs k v) i None)
set_each P [] k p h i = h i
set_each P (x ∷ xs) zero p h zero = p
set_each P (x ∷ xs) zero p h (suc i) = h (suc i)
set_each P (x ∷ xs) (suc k) p h zero = h zero
set_each P (x ∷ xs) (suc k) p h (suc i) = set_each P xs k p (λ j. h (suc j)) i

-- what holds of no lift and of each choice's lift holds at each place of the table
pub by_round_each : (P : Option Pick → Type 0) → ((c : Choice) → Sound c → P (Some (pick_of c))) → (a : ℕ) (cs : List Choice) → Rises a cs
    → (xs : List (Option Pick)) → ((i : ℕ) → P (get_or xs i None)) → (i : ℕ) → P (get_or (by_round cs xs) i None)
unfolding by_round
by_round_each P h a [] d xs k = k
by_round_each P h a (c ∷ cs) d xs k = by_round_each P h (suc c.round) cs d.2 (set xs c.round (Some (pick_of c))) (set_each P xs c.round (h c d.1) k)

-- it stays as long
pub length_by_round : (cs : List Choice) (xs : List (Option Pick)) → length (by_round cs xs) ≡ length xs
unfolding by_round
length_by_round [] xs = refl
length_by_round (c ∷ cs) xs = length_by_round cs (set xs c.round (Some (pick_of c))) ∙ length-set xs c.round (Some (pick_of c))

-- one choice more
pub by_round_one : (cs : List Choice) (c : Choice) (xs : List (Option Pick)) → by_round (cs ++ (c ∷ [])) xs ≡ set (by_round cs xs) c.round (Some (pick_of c))
unfolding by_round
by_round_one [] c xs = refl
by_round_one (x ∷ cs) c xs = by_round_one cs c (set xs x.round (Some (pick_of x)))

-- a place below the rounds keeps what it had
pub by_round_below : (a : ℕ) (cs : List Choice) → Rises a cs → (xs : List (Option Pick)) (r : ℕ) → r < a → get_or (by_round cs xs) r None ≡ get_or xs r None
unfolding by_round
by_round_below a [] d xs r h = refl
by_round_below a (c ∷ cs) d xs r h =
    by_round_below (suc c.round) cs d.2 (set xs c.round (Some (pick_of c))) r (omega (arith, d.0))
    ∙ get_or-set_other xs c.round r (Some (pick_of c)) None (λ e. omega (arith, e, d.0))

-- the first round's place has its choice's lift
pub by_round_first : (c : Choice) (cs : List Choice) → Rises (suc c.round) cs → (xs : List (Option Pick)) → c.round < length xs
    → get_or (by_round (c ∷ cs) xs) c.round None ≡ Some (pick_of c)
unfolding by_round
by_round_first c cs d xs h =
    by_round_below (suc c.round) cs d (set xs c.round (Some (pick_of c))) c.round (omega arith) ∙ get_or-set_same xs c.round (Some (pick_of c)) None h
