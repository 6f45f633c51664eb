-- `scan::pass_lifts` meets its contract: reading on from the words left reads the same sheet. Assumes nothing.
use Prim.Native.Nat.{ℕ, ◌+◌, ◌≤◌}
use mathlib.Core.List.{List}
use lib.ListN.{length}
use Rattle.sheet.specs.Sheet.{longest}
use Rattle.scan.specs.Scan.{state_of, Kept}
use Rattle.scan.proofs.reading.pass_lifts.Given as goal

abbrev pub invariant-loop-rest : goal.invariant-loop-rest
invariant-loop-rest l =
    record {
      few : l.s.lifts + length l.rest ≤ longest;
      shorter : length l.rest ≤ length l.fn.rest;
      kept : (ws : List ℕ) → Kept ws (state_of l.fn.s) l.fn.rest → Kept ws (state_of l.s) l.rest;
    }

abbrev pub decreases-loop-rest : goal.decreases-loop-rest
decreases-loop-rest l = length l.rest
