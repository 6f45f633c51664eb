-- Laws of one draw. The first word below K × b of the words from a position on is where its draw gets the value.
use Prim.Native.Nat.{ℕ, suc, ◌+◌, ◌-◌, ◌*◌, ◌%◌, ◌<◌}
use Prim.Native.Nat.compare
use mathlib.Core.Path.{◌≡◌, refl, sym, ap, ◌∙◌}
use mathlib.Core.Bool.{Bool, true, false, cond, not}
use mathlib.Core.List.{List, [], ◌∷◌}
use native.Mathlib.Omega.{arith}
use borrow.Author.Tests.{lt-ltb, le-ltb}
use lib.Dec.{ltb}
use lib.ListN.{length, get_or, drop, drop_of_length-le, length-drop}
use Rattle.std.proofs.lemmas.List.{take_all}
use Rattle.std.specs.Prelude.{Option, Some, None, option_map}
use Rattle.std.specs.List.{position, position_or_len, slice_range}
use Rattle.draw.specs.Draw.{K, draw_from, draw_at}

module _ (m b : ℕ) where
  -- the value of the word at place k of the words from position i on, and the position behind it
  abbrev given : ℕ → List ℕ → ℕ → ℕ × ℕ
  given i ws k = (get_or ws k 0 % b, i + (k + 1))

  from_first : (i : ℕ) (ws : List ℕ) → draw_from m b i ws ≡ option_map (given i ws) (position (λ w. ltb w (K m b * b)) ws)
  unfolding draw_from
  from_first i [] = refl
  from_first i (w ∷ ws) = go (ltb w (K m b * b)) (position_or_len (λ w. ltb w (K m b * b)) ws) (from_first (i + 1) ws)
    where
      go : (t : Bool) (n : ℕ) → draw_from m b (i + 1) ws ≡ option_map (given (i + 1) ws) (cond (ltb n (length ws)) (Some n) None)
          → cond t (Some (w % b, i + 1)) (draw_from m b (i + 1) ws)
          ≡ option_map (given i (w ∷ ws)) (cond (ltb (cond (not t) (1 + n) 0) (suc (length ws))) (Some (cond (not t) (1 + n) 0)) None)
      go true n h = rw (lt-ltb 0 (suc (length ws)) (omega arith))
      go false n h = let e : 1 + n ≡ suc n = omega arith in rw (e, compare.suc-suc (suc n) (length ws)) (h ∙ shift (ltb n (length ws)) n)
        where
          shift : (t : Bool) (n : ℕ) → option_map (given (i + 1) ws) (cond t (Some n) None) ≡ option_map (given i (w ∷ ws)) (cond t (Some (suc n)) None)
          shift true n = let e : i + 1 + (n + 1) ≡ i + (suc n + 1) = omega arith in ap (λ (k : ℕ). Some (get_or ws n 0 % b, k)) e
          shift false n = refl

  -- the first word of those from a position on is found, or none
  pub found : (ws : List ℕ) (at : ℕ) {rest : List ℕ} {f g : Option ℕ} → rest ≡ slice_range ws at (length ws) → f ≡ position (λ w. ltb w (K m b * b)) rest → f ≡ g
      → option_map (given at rest) g ≡ draw_at m ws at b
  found ws at {rest} r e q =
      let d : rest ≡ drop at ws = r ∙ take_all (length ws - at) (drop at ws) (omega (arith, length-drop at ws)) in
      rw (← d) (sym (from_first at rest ∙ ap (option_map (given at rest)) (sym e ∙ q)))

-- there are no words from a position behind the list
pub ended : (m b : ℕ) (ws : List ℕ) (at : ℕ) → length ws < at → None ≡ draw_at m ws at b
unfolding draw_from
ended m b ws at h = rw (drop_of_length-le ws {i = at} (omega arith))

zero_from : (m i : ℕ) (ws : List ℕ) → draw_from m 0 i ws ≡ None
unfolding draw_from
zero_from m i [] = refl
zero_from m i (w ∷ ws) = rw (le-ltb w (K m 0 * 0) (omega arith)) (zero_from m (i + 1) ws)

-- below 0 there is no value: every word is passed over
pub zero_short : (m : ℕ) (ws : List ℕ) (at : ℕ) → draw_at m ws at 0 ≡ None
zero_short m ws at = zero_from m at (drop at ws)
