-- What a refusal leaves of a lent list, and that none has number 0.
use Prim.Native.Nat.{ℕ, ◌<◌}
use mathlib.Core.Path.{◌≡◌}
use mathlib.Core.List.{List}
use native.Mathlib.Omega.{arith}
use borrow.Author.Tests.{ne_eqb}
use Rattle.reply.specs.Reply.{of_refusal, unless_refused}
use Rattle.reply.specs.declared.Reply.{Reply}
use Rattle.reply.specs.Refusal.{refusal_of}
use Rattle.reply.specs.declared.Refusal.{Refusal}
use Rattle.reply.specs.declared.Refusal.TheVariants.{Length, Sequence, Number, Place, Count, Mark, NotOneHeld, Oversize, ZeroSum, TooManyDonors, Start, Output, Words, Form, Lift, Uncounted, Next}

-- a refusal leaves the list as it was
pub left : {y z : Reply} (out new : List ℕ) → (y.number ≡ 0 → ⊥) → y ≡ z → (y ≡ z) × (out ≡ unless_refused z out new)
left {y} out new h e = (e, rw (← e, ne_eqb y.number 0 h))

-- no refusal has number 0
pub above_refusal : (x : Refusal) → 0 < (refusal_of x).number
above_refusal (Length place) = omega arith
above_refusal (Sequence place) = omega arith
above_refusal (Number place) = omega arith
above_refusal (Place place) = omega arith
above_refusal (Count place) = omega arith
above_refusal (Mark place) = omega arith
above_refusal (NotOneHeld place) = omega arith
above_refusal (Oversize place) = omega arith
above_refusal (ZeroSum place) = omega arith
above_refusal (TooManyDonors place) = omega arith
above_refusal (Start place) = omega arith
above_refusal (Output place) = omega arith
above_refusal (Words place) = omega arith
above_refusal (Form place) = omega arith
above_refusal (Lift place) = omega arith
above_refusal (Uncounted place) = omega arith
above_refusal (Next place) = omega arith

-- a call's refusal leaves the list as it was
pub left_refused : (x : Refusal) {z : Reply} (out new : List ℕ) → of_refusal (refusal_of x) ≡ z → (of_refusal (refusal_of x) ≡ z) × (out ≡ unless_refused z out new)
left_refused x out new e = left out new (λ z. omega (arith, z, above_refusal x)) e
