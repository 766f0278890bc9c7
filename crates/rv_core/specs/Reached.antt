-- What holds of a pipeline between its calls.
use Rattle.std.specs.Prelude.{◌≡◌, ◌*◌, ◌≤◌, true, is_some}
use Rattle.rv_isa.specs.declared.lines.Lines.{Lines}
use Rattle.rv_hardware.specs.Cycle.{with_lines}
use Rattle.rv_hardware.specs.Hardware.{Hardware}
use Rattle.rv_hardware.specs.Run.{Reachable}
use Rattle.rv_core.specs.Steps.{room_of}
use Rattle.rv_core.specs.declared.steps.Steps.{Steps}

-- its hardware is one that a reset and cycles lead to, and its list of steps has the room for a cycle's that it was made with
pub record IsReached (h : Hardware) (steps : Steps) : Type 0 where
  pub reached : Reachable h
  pub numbers : h.rob.retired ≤ 8 * h.cycle
  pub lists : is_some steps.list ≡ true
  pub has_room : room_of steps ≡ 8

-- such hardware in a further cycle, in which the lines have their levels
pub record IsBegun (h : Hardware) : Type 0 where
  pub before : Hardware
  pub reached : Reachable before
  pub lines : Lines
  pub begun : h ≡ with_lines lines before
