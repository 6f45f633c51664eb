-- Tables of cases, and the tests on lists of numbers and on fractions that their cases use; all of it computes.
use Rattle.std.specs.Prelude.{ℕ, ◌*◌, Bool, true, false, ◌&&◌, List, [], ◌∷◌, eqb, ltb}
use Rattle.probability.specs.Fraction.{Fraction}

abbrev pub same : List ℕ → List ℕ → Bool
same [] [] = true
same [] (y ∷ ys) = false
same (x ∷ xs) [] = false
same (x ∷ xs) (y ∷ ys) = eqb x y && same xs ys

-- `◌≈◌` as a test
abbrev pub same_fraction : Fraction → Fraction → Bool
same_fraction q r = eqb (q.num * r.den) (r.num * q.den) && (ltb 0 q.den && ltb 0 r.den)

-- a table of cases is a list of tests, one for each case: all of them pass
abbrev pub all_right : List Bool → Bool
all_right [] = true
all_right (c ∷ cs) = c && all_right cs
