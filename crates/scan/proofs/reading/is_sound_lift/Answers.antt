-- `scan::is_sound_lift` meets its contract: each test that passes is a premise of `sound_lift`. Assumes nothing.
use native.Mathlib.Omega.{arith}
use mathlib.Core.Path.{sym, ◌∙◌}
use mathlib.Core.Logic.{inl, inr}
use Rattle.scan.proofs.Readings.{sound_lift}
use Rattle.scan.proofs.reading.is_sound_lift.Goals as goal

pub returns-then-is_counted_place : goal.returns-then-is_counted_place
returns-then-is_counted_place c h = sound_lift _ _ _ _
    (sym c.follows.ensures ∙ c.if-not-follows.false)
    (sym c.kind.ensures ∙ c.if-kind-ne-LIFT.false)
    (omega (arith, c.payload.ensures, c.if-payload-s.false))
    (c.is_counted_place.ensures c.if-not-is_counted_place.false)
    (inl (c.is_counted_place-2.ensures h))

pub returns-else-is_counted_place : goal.returns-else-is_counted_place
returns-else-is_counted_place c h = sound_lift _ _ _ _
    (sym c.follows.ensures ∙ c.if-not-follows.false)
    (sym c.kind.ensures ∙ c.if-kind-ne-LIFT.false)
    (omega (arith, c.payload.ensures, c.if-payload-s.false))
    (c.is_counted_place.ensures c.if-not-is_counted_place.false)
    (inr (c.is_returning_place.ensures h))
