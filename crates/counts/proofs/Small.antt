-- The numbers of a line, and the new measures of lifts by lines, are small.
use Prim.Native.Nat.{ℕ, ◌≤◌}
use mathlib.Core.Path.{◌≡◌, refl}
use mathlib.Core.Bool.{Bool, true, false, cond, not, ◌&&◌}
use mathlib.Core.List.{List, [], ◌∷◌}
use Rattle.std.specs.Prelude.{Some}
use Rattle.std.proofs.lemmas.Bool.{and_parts}
use native.Mathlib.Omega.{arith}
use lib.Dec.{eqb}
use borrow.Author.Tests.{leb-true}
use Rattle.sheet.specs.Sheet.{largest_sum}
use Rattle.counts.specs.Text.{before_comma, behind_comma, all_digits, value, empty, is_number, largest_lift, largest_count, CountLine, counted, malformed, count_line}
use Rattle.counts.specs.Counts.{hundreds, measure_by, measure_for}

-- a line's numbers are small
entry_small : (l : List ℕ) {n c : ℕ} → count_line l ≡ counted n c → (n ≤ largest_lift) × (c ≤ largest_count)
unfolding count_line
entry_small l {n} {c} e = go (is_number largest_lift (before_comma l)) refl (is_number largest_count (behind_comma l)) refl e
  where
    within : (limit : ℕ) (bs : List ℕ) → is_number limit bs ≡ true → value bs ≤ limit
    within limit bs h = leb-true (value bs) limit (and_parts (all_digits bs) _ (and_parts (not (empty bs)) _ h).1).1

    go : (a : Bool) → is_number largest_lift (before_comma l) ≡ a → (b : Bool) → is_number largest_count (behind_comma l) ≡ b
        → cond (a && b) (counted (value (before_comma l)) (value (behind_comma l))) malformed ≡ counted n c → (n ≤ largest_lift) × (c ≤ largest_count)
    go true h true k q =
        let v : value (before_comma l) ≡ n = cc in
        let w : value (behind_comma l) ≡ c = cc in
        (omega (arith, within largest_lift (before_comma l) h), omega (arith, within largest_count (behind_comma l) k))
    go true h false k q = let z : ◌≡◌ {A = ℕ} 0 1 = cc in absurd (omega arith)
    go false h b k q = let z : ◌≡◌ {A = ℕ} 0 1 = cc in absurd (omega arith)

pub count_small : (l : List ℕ) {n c : ℕ} → count_line l ≡ counted n c → c ≤ largest_count
count_small l e = (entry_small l e).1

-- so is a lift's new measure
pub measure_for_small : (xs : List (List ℕ)) (n : ℕ) {m : ℕ} → measure_for xs n ≡ Some m → m ≤ largest_sum
unfolding measure_for
measure_for_small [] n {m} q = let z : ◌≡◌ {A = ℕ} 0 1 = cc in absurd (omega arith)
measure_for_small (x ∷ xs) n {m} q = go (count_line x) refl q (measure_for_small xs n)
  where
    go : (e : CountLine) → count_line x ≡ e → measure_by e n (measure_for xs n) ≡ Some m → (measure_for xs n ≡ Some m → m ≤ largest_sum) → m ≤ largest_sum
    go malformed h q r = r q
    go (counted l c) h q r = by (eqb l n) q
      where
        by : (t : Bool) → cond t (Some (hundreds c)) (measure_for xs n) ≡ Some m → m ≤ largest_sum
        by true q = let e : hundreds c ≡ m = cc in omega (arith, count_small x h)
        by false q = r q
