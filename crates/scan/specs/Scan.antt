-- The state of the scan as the code has it, and what holds between two words.
use Rattle.std.specs.Prelude.{ℕ, ◌+◌, ◌-◌, ◌≤◌, ◌≡◌, List, length}
use Rattle.sheet.specs.Reading.{ScanState, read_from, reading}
use Rattle.scan.specs.declared.faults.State.{State}

-- as the definitions have it
abbrev pub state_of : State → ScanState
state_of s = record { kind = s.kind; number = s.number; old = s.old; lifts = s.lifts }

-- reading on in state s from the words left reads the sheet, and s has no more lifts than there are words before them
pub record Kept (ws : List ℕ) (s : ScanState) (rest : List ℕ) : Type 0 where
  pub same : read_from s (length ws - length rest) rest ≡ reading ws
  pub few : s.lifts + length rest ≤ length ws
