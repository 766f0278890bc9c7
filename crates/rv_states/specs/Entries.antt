-- The instructions in the reorder buffer, as JSON.
use Rattle.std.specs.Prelude.{ℕ, ◌+◌, List, [], ◌∷◌, ◌++◌, codes}
use Rattle.rv_watch.specs.Registers.{RegisterStatus, status_with, values_in}
use Rattle.rv_states.specs.Entry.{entry_text}
use Rattle.rv_states.specs.Json.{Json}
use Rattle.rv_states.specs.Operands.{operands_text}
use Rattle.rv_rob.specs.ReorderBuffer.{ReorderBuffer}
use Rattle.rv_rob.specs.declared.entry.Entry.{Entry}

-- an instruction by its sequence number, where the registers give it this
unfoldable pub entry_json : RegisterStatus → ℕ → Entry → Json
entry_json status number e = entry_text number e ++ (operands_text status e.stage e.instruction ++ codes "}")

-- the instructions, the oldest first, where the registers give the first of them this
abbrev pub entries_json : RegisterStatus → ℕ → List Entry → List Json
entries_json status number [] = []
entries_json status number (e ∷ es) =
    entry_json status number e ∷ entries_json (status_with status number e) (number + 1) es

-- the instructions of a reorder buffer, over these registers
abbrev pub buffer_json : List ℕ → ReorderBuffer → List Json
buffer_json registers buffer = entries_json (values_in registers) buffer.retired buffer.entries
