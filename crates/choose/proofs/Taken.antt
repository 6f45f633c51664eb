-- What stands in a buffer that is read into from a place on. Assumes nothing.
use Prim.Native.Nat.{ℕ, ◌+◌, ◌≤◌}
use mathlib.Core.Path.{◌≡◌}
use mathlib.Core.List.{List, ◌++◌}
use lib.ListN.{length, take}
use lib.Seq.{length-take-le, take_at, drop_at, take-add, take-append-le}

-- n bytes of ys behind the first of xs
pub taken : (a n : ℕ) (xs ys rest : List ℕ) → a ≤ length xs → n ≤ length ys → take (a + n) (take a xs ++ (ys ++ rest)) ≡ take a xs ++ take n ys
taken a n xs ys rest within fits =
    let long : length (take a xs) ≡ a = length-take-le a xs within in
    rw (take-add a n (take a xs ++ (ys ++ rest)), take_at (take a xs) (ys ++ rest) a long, drop_at (take a xs) (ys ++ rest) a long, take-append-le n ys rest fits)
