-- The bits that are set in a number, and in two words: the lowest, those that are left without it, and those of a number made of bits.
use Prim.Native.Nat.{ℕ, zero, suc, ◌+◌, ◌-◌, ◌*◌, ◌/◌, ◌%◌, ◌^◌, ◌<◌}
use mathlib.Core.Path.{◌≡◌, refl, sym, ap, ap₂, ◌∙◌}
use mathlib.Core.Bool.{Bool, true, false, cond}
use mathlib.Core.List.{List, [], ◌∷◌, ◌++◌, append-nil}
use native.Mathlib.Nat.{pow-suc, add-zero, zero-add}
use native.Mathlib.Omega.{arith}
use lib.Bits.{bit_and, and_step, and_self}
use lib.Count.{count_trailing_zeros, under}
use lib.Dec.{eqb}
use Rattle.probability.specs.Sum.{indicator}
use Rattle.sheet.specs.Sheet.{most_rounds, Lift}
use Rattle.tally.specs.Rounds.{filter_range, rounds, sends, donors}
use Rattle.tally.specs.Tables.{bits}
use Rattle.rows.specs.SetBits.{set_from, set_bits}
use Rattle.sheet.specs.Law.{AllWellFormed}
use Rattle.tally.proofs.Bits.{low, high}
use Rattle.tally.proofs.Ranges.{filter_cut, filter_none, filter_head}
use Rattle.tally.proofs.Sending.{sends_none, from_nowhere, from_beyond}

-- ---- one bit more

-- a number by its lowest bit and the others
record Halved (w : ℕ) : Type 0 where
  pub bit : Bool
  pub rest : ℕ
  pub same : w ≡ indicator bit + 2 * rest

halved : (w : ℕ) → Halved w
halved w = go (w % 2) refl
  where
    go : (d : ℕ) → w % 2 ≡ d → Halved w
    go zero e = record { bit = false; rest = w / 2; same = omega arith }
    go (suc zero) e = record { bit = true; rest = w / 2; same = omega arith }
    go (suc (suc d)) e = absurd (omega arith)

module _ (n w : ℕ) (b : Bool) (x : ℕ) (e : w ≡ indicator b + 2 * x) where
  zeros_step : count_trailing_zeros (suc n) w ≡ cond b 0 (suc (count_trailing_zeros n x))
  unfolding count_trailing_zeros
  zeros_step = rw (e, low b x, high b x) (go b)
    where
      go : (t : Bool) → under (indicator t) (count_trailing_zeros n x) ≡ cond t 0 (suc (count_trailing_zeros n x))
      go true = refl
      go false = refl

  set_step : (a : ℕ) → set_from a (suc n) w ≡ cond b (a ∷ set_from (suc a) n x) (set_from (suc a) n x)
  unfolding set_from
  set_step a = rw (e, low b x, high b x) (go b)
    where
      go : (t : Bool) → cond (eqb (indicator t) 1) (a ∷ set_from (suc a) n x) (set_from (suc a) n x) ≡ cond t (a ∷ set_from (suc a) n x) (set_from (suc a) n x)
      go true = refl
      go false = refl

-- ---- the lowest

-- of the n bits of a number that are set, the lowest stands above the zeros; the others are those of the number without it
pub set_lowest : (a n w : ℕ) → 0 < w → w < 2 ^ n → set_from a n w ≡ (a + count_trailing_zeros n w) ∷ set_from a n (bit_and w (w - 1))
set_lowest a zero w p h = absurd (omega arith)
set_lowest a (suc n) w p h = go (halved w).bit (halved w).rest (halved w).same (set_lowest (suc a) n)
  where
    go : (b : Bool) (x : ℕ) → w ≡ indicator b + 2 * x → ((y : ℕ) → 0 < y → y < 2 ^ n → set_from (suc a) n y ≡ (suc a + count_trailing_zeros n y) ∷ set_from (suc a) n (bit_and y (y - 1)))
        → set_from a (suc n) w ≡ (a + count_trailing_zeros (suc n) w) ∷ set_from a (suc n) (bit_and w (w - 1))
    go true x e ih =
        let f : w - 1 ≡ indicator false + 2 * x = omega arith in
        let r : bit_and w (w - 1) ≡ indicator false + 2 * x = rw (and_step w (w - 1), f, e, low true x, high true x, low false x, high false x, and_self x) (omega arith) in
        rw (set_step n w true x e a, set_step n (bit_and w (w - 1)) false x r a, zeros_step n w true x e, add-zero) refl
    go false x e ih =
        let f : w - 1 ≡ indicator true + 2 * (x - 1) = omega arith in
        let r : bit_and w (w - 1) ≡ indicator false + 2 * bit_and x (x - 1) = rw (and_step w (w - 1), f, e, low false x, high false x, low true (x - 1), high true (x - 1)) (omega arith) in
        rw (set_step n w false x e a, set_step n (bit_and w (w - 1)) false (bit_and x (x - 1)) r a, zeros_step n w false x e, ih x (omega arith) (omega (arith, pow-suc 2 n)))
        (ap (λ t. t ∷ set_from (suc a) n (bit_and x (x - 1))) (omega arith))

-- no bit is set in 0
pub set_none : (a n : ℕ) → set_from a n 0 ≡ []
unfolding set_from
set_none a zero = refl
set_none a (suc n) = set_none (suc a) n

-- ---- two words

module _ (low high : ℕ) where
  -- the lowest bit that is set, and the others, where it is in the low word
  pub low_lowest : 0 < low → low < 2 ^ 64 → set_bits low high ≡ count_trailing_zeros 64 low ∷ set_bits (bit_and low (low - 1)) high
  low_lowest p h = ap (λ l. l ++ set_from 64 64 high) (set_lowest 0 64 low p h) ∙ ap (λ t. t ∷ set_bits (bit_and low (low - 1)) high) (zero-add (count_trailing_zeros 64 low))

  -- and where it is in the high word
  pub high_lowest : low ≡ 0 → 0 < high → high < 2 ^ 64 → set_bits low high ≡ (64 + count_trailing_zeros 64 high) ∷ set_bits low (bit_and high (high - 1))
  high_lowest e p h = rw (e, set_none 0 64) (set_lowest 64 64 high p h)

  -- where none is set
  pub none_set : low ≡ 0 → high ≡ 0 → set_bits low high ≡ []
  none_set e f = rw (e, f, set_none 0 64, set_none 64 64)

-- ---- numbers made of bits

-- the bits that are set are those that pass the test
pub set_bits_lem : (p : ℕ → Bool) (a n : ℕ) {q : ℕ → Bool} → ((t : ℕ) → q t ≡ p (a + t)) → set_from a n (bits n q) ≡ filter_range p a n
unfolding set_from bits filter_range
set_bits_lem p a zero h = refl
set_bits_lem p a (suc n) {q} h =
    set_step n (bits (suc n) q) (q 0) (bits n (λ t. q (suc t))) refl a
    ∙ rw (h 0, add-zero a, set_bits_lem p (suc a) n {q = λ t. q (suc t)} (λ t. h (suc t) ∙ ap p (omega arith)))

-- those of two words are the rounds, if neither 0 nor a number beyond the last round passes
two_words : (p : ℕ → Bool) → p 0 ≡ false → ((t : ℕ) → most_rounds < t → p t ≡ false) → filter_range p 0 64 ++ filter_range p 64 64 ≡ rounds p
two_words p none beyond =
    let n : ℕ = 127 - most_rounds in
    let first : filter_range p 0 1 ≡ [] = filter_none p 0 1 (λ t _ h. let e : t ≡ 0 = omega arith in rw e none) in
    let last : filter_range p (most_rounds + 1) n ≡ [] = filter_none p (most_rounds + 1) n (λ t h _. beyond t (omega arith)) in
    sym (filter_cut p 0 64 64 {b = 64} {k = 128} refl refl) ∙ filter_cut p 0 1 127 {b = 1} {k = 128} refl refl ∙ ap (λ l. l ++ filter_range p 1 127) first
    ∙ filter_cut p 1 most_rounds n {b = most_rounds + 1} {k = 127} refl refl ∙ ap (λ l. rounds p ++ l) last ∙ append-nil (rounds p)

module _ (r : ℕ) (ls : List Lift) where
  -- the bits that are set in the two words of a new round are its donors
  pub set_donors : AllWellFormed 0 ls → set_bits (bits 64 (λ t. sends t r ls)) (bits 64 (λ t. sends (64 + t) r ls)) ≡ donors r ls
  set_donors d =
      ap₂ ◌++◌ (set_bits_lem (λ t. sends t r ls) 0 64 (λ t. ap (λ k. sends k r ls) (sym (zero-add t)))) (set_bits_lem (λ t. sends t r ls) 64 64 (λ t. refl))
      ∙ two_words (λ t. sends t r ls) (sends_none 0 r (from_nowhere r) 0 ls d) (λ t h. sends_none t r (from_beyond t r h) 0 ls d)

  -- the first two donors rise
  pub rising_two : {d e : ℕ} {ds : List ℕ} → donors r ls ≡ d ∷ e ∷ ds → d < e
  rising_two {d} {e} {ds} q =
      let p : ℕ → Bool = λ t. sends t r ls in
      (filter_head p (suc d) (1 + most_rounds - suc d) e ds (sym (filter_head p 1 most_rounds d (e ∷ ds) q).rest)).from
