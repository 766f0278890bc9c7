-- What each register gives to an instruction, after the older ones in flight.
use Rattle.std.specs.Prelude.{ℕ, ◌+◌, if◌then◌else◌, List, [], ◌∷◌, slice_index, Option, Some, None}
use Rattle.rv_isa.specs.declared.broadcast.Message.{Message}
use Rattle.rv_rob.specs.declared.entry.Entry.{Entry}
use Rattle.rv_stations.specs.declared.waiting.Operand.{Operand}
use Rattle.rv_stations.specs.declared.waiting.Operand.TheVariants.{Value, Tag}
use Rattle.rv_hardware.specs.InFlight.{broadcast_of, writes}

-- what each register gives to an instruction: its value, or the tag of the instruction that it waits for
abbrev pub RegisterStatus : Type 0
RegisterStatus = ℕ → Operand

-- with nothing in flight, all values are there
abbrev pub values_in : List ℕ → RegisterStatus
values_in registers register = Value (slice_index registers register)

-- what the target of an instruction gives
abbrev pub operand_by : ℕ → Option Message → Operand
operand_by seq None = Tag seq
operand_by seq (Some message) = Value message.value

-- the status after an instruction
abbrev pub status_with : RegisterStatus → ℕ → Entry → RegisterStatus
status_with status seq e register = if writes e register then operand_by seq (broadcast_of e.stage) else status register

-- the status after some instructions, the first of which has a sequence number
abbrev pub status_after : RegisterStatus → ℕ → List Entry → RegisterStatus
status_after status seq [] = status
status_after status seq (e ∷ es) = status_after (status_with status seq e) (seq + 1) es
