-- What an instruction that waits reads, as JSON.
use Rattle.std.specs.Prelude.{ℕ, List, [], ◌++◌, codes, slice_index_or, take, Option, Some, None}
use Rattle.rv_isa.specs.Operands.{sources_of}
use Rattle.rv_isa.specs.declared.instructions.Instr.{Instr}
use Rattle.rv_watch.specs.Registers.{RegisterStatus, status_after, values_in}
use Rattle.rv_rob.specs.ReorderBuffer.{ReorderBuffer}
use Rattle.rv_rob.specs.declared.entry.{Stage.Stage}
use Rattle.rv_rob.specs.declared.entry.Stage.TheVariants.{Waiting, Running, Finished}
use Rattle.rv_states.specs.Json.{also}
use Rattle.rv_states.specs.Operand.{operand_json}

-- what each register gives after the oldest so many instructions of a reorder buffer
abbrev pub status_at : List ℕ → ReorderBuffer → ℕ → RegisterStatus
status_at registers buffer count = status_after (values_in registers) buffer.retired (take count buffer.entries)

-- an operand, where the instruction has it
unfoldable pub operand_text : List ℕ → RegisterStatus → Option ℕ → List ℕ
operand_text name status None = []
operand_text name status (Some register) = also name (operand_json register (status register))

-- two operands
abbrev pub both_text : RegisterStatus → Option ℕ → Option ℕ → List ℕ
both_text status first second = operand_text (codes "first") status first ++ operand_text (codes "second") status second

-- both operands of an instruction
unfoldable pub operands_of : RegisterStatus → Instr → List ℕ
operands_of status instruction =
    both_text status (slice_index_or (sources_of instruction) 0 None) (slice_index_or (sources_of instruction) 1 None)

-- the same of a word, if it is an instruction
abbrev pub operands_of_word : RegisterStatus → Option Instr → List ℕ
operands_of_word status None = []
operands_of_word status (Some instruction) = operands_of status instruction

-- what an instruction reads that waits
abbrev pub operands_text : RegisterStatus → Stage → Option Instr → List ℕ
operands_text status Waiting instruction = operands_of_word status instruction
operands_text status (Running issue message) instruction = []
operands_text status (Finished issue cycle message) instruction = []
