-- What was taken from the file grows by the piece.
use mathlib.Core.List.{◌++◌}
use native.Mathlib.Omega.{arith}
use lib.ListN.{length-append}
use Rattle.std.proofs.KnownBytes.{Consumes-trans}
use Rattle.choose.proofs.reading.count_on.Goals as goal

pub loop-size-preserved : goal.loop-size-preserved
loop-size-preserved g c =
    let before = c.loop-size.invariant in
    let piece = c.in_ok-n.ensures.read in
    (before.0 ++ piece.0, rw length-append (omega (arith, before.1, piece.2)), Consumes-trans _ _ _ _ _ before.2 piece.1)
