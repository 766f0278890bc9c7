-- The events that are marked in a window of cycles of a run: those of instructions in it.
use Rattle.std.specs.Prelude.{ℕ, ◌&&◌, nat_le, Bool, true, false}
use Rattle.rv_causes.specs.declared.{event.Event.Event, point.Stage.Stage}
use Rattle.rv_causes.specs.declared.point.Stage.TheVariants as stage

-- an event is one of an instruction, and not of the hardware beside it
abbrev pub is_of_instruction : Stage → Bool
is_of_instruction stage.Fetch = true
is_of_instruction stage.Dispatch = true
is_of_instruction stage.Issue = true
is_of_instruction stage.Broadcast = true
is_of_instruction stage.Commit = true
is_of_instruction _ = false

-- an event is marked that is one of an instruction, and does not come before the window
abbrev pub is_marked : ℕ → Event → Bool
is_marked from event = is_of_instruction event.at.stage && nat_le from event.cycle
