-- The instruction whose stale word ended a run.
use Rattle.std.specs.Prelude.{ℕ, ◌==◌, Bool, false, Option, Some, None}
use Rattle.rv_passage.specs.declared.passage.Passage.{Passage}
use Rattle.rv_drawing.specs.declared.window.Window.{Window}

-- it has this number
abbrev pub is_number : Option ℕ → ℕ → Bool
is_number None number = false
is_number (Some stopped) number = stopped == number

-- an instruction is that of a window
abbrev pub is_stopped : Window → Passage → Bool
is_stopped window passage = is_number window.stopped passage.number
