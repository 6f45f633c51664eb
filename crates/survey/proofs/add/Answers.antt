-- `survey::add` meets its contract: both rounds of the lift grow by it, and its old round's bit is joined to its new round's. Assumes nothing.
use mathlib.Core.Path.{◌≡◌, refl, sym, ◌∙◌}
use mathlib.Core.Bool.{Bool, true, false}
use Prim.Native.Nat.{ℕ, ◌*◌, ◌%◌, ◌^◌}
use native.Mathlib.Nat.{one-mul, zero-mul}
use native.Mathlib.Omega.{arith}
use lib.Dec.{ltb}
use lib.Pow.{shl_exact}
use borrow.Author.Tests.{ltb-true, ltb-false}
use mir.Val.{bool_byte}
use Rattle.probability.specs.Sum.{indicator}
use Rattle.tally.specs.Tables.{bit_of}
use Rattle.tally.proofs.Bits.{bit_none, bit_one}
use Rattle.tally.proofs.Adding.{new_none, tabled_more}
use Rattle.survey.proofs.add.Goals as goal

flagged : (b : Bool) → bool_byte b ≡ indicator b
flagged true = refl
flagged false = refl

-- a bit or none, shifted to its place
shifted : (round measure : ℕ) → indicator (ltb 0 measure) * 2 ^ (round % 64) % 2 ^ 64 ≡ bit_of round measure
shifted round measure = go (ltb 0 measure) refl
  where
    go : (t : Bool) → ltb 0 measure ≡ t → indicator t * 2 ^ (round % 64) % 2 ^ 64 ≡ bit_of round measure
    go true e = shl_exact 1 (round % 64) 64 (omega arith) (omega arith) ∙ one-mul (2 ^ (round % 64)) ∙ sym (bit_one 64 (round % 64) measure (omega arith) (ltb-true 0 measure e))
    go false e = rw (zero-mul (2 ^ (round % 64))) (sym (bit_none 64 (round % 64) measure (omega (arith, ltb-false 0 measure e))))

pub overflow_add-old : goal.overflow_add-old
overflow_add-old c = record { fits = (c.requires.room _ new_none).old_lifts }

pub overflow_add-old-2 : goal.overflow_add-old-2
overflow_add-old-2 c = record { fits = rw (c.from.ensures, flagged) (c.requires.room _ new_none).held }

pub overflow_add-old-3 : goal.overflow_add-old-3
overflow_add-old-3 c = record { fits = (c.requires.room _ new_none).old_sum }

pub returns : goal.returns
returns c = λ ls x q t.
    rw (c.from.ensures, flagged)
    (tabled_more ls x _ _ t q c.requires.from_in_bounds c.requires.to_in_bounds (rw (c.from-2.ensures, flagged) (shifted c.args.l.from c.args.l.old)))
