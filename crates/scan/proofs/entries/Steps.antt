-- A step of the walk over the lifts left.
use Prim.Native.Nat.{ℕ, ◌+◌, ◌<◌}
use mathlib.Core.Path.{◌≡◌, sym, ap, subst, ◌∙◌}
use mathlib.Core.List.{List, ◌∷◌}
use native.Mathlib.Omega.{arith}
use lib.ListN.{length, drop}
use Rattle.probability.specs.Sum.{indicator}
use Rattle.sheet.specs.Sheet.{Lift, lift_of, lifts}
use Rattle.sheet.specs.Lift.{entry_of}
use Rattle.sheet.specs.Law.{LiftsLeft}
use Rattle.sheet.specs.declared.Entry.{Entry}
use Rattle.sheet.proofs.Walks.{First, size}
use Rattle.scan.specs.Lifts.{FirstLift}

module _ {ws rest : List ℕ} {e : Entry} {k : ℕ} (f : First k ws) (q : e ≡ entry_of (lift_of ws)) (b : rest ≡ drop (3 + indicator e.held) ws) where
  passed : drop (size ws) ws ≡ rest
  passed = ap (λ x. drop (3 + indicator x.held) ws) (sym q) ∙ sym b

  pub next_left : LiftsLeft rest
  next_left = subst LiftsLeft passed f.next

  pub gives_first : {ls : List Lift} → lifts ws ≡ ls → FirstLift ls e (lifts rest)
  gives_first h = record { lift = lift_of ws; first = sym h ∙ f.here ∙ ap (λ us. lift_of ws ∷ lifts us) passed; read = q; old = f.old; new = f.new }

  pub fewer : {ls : List Lift} → lifts ws ≡ ls → length (lifts rest) < length ls
  fewer h = omega (arith, ap length (gives_first h).first)
