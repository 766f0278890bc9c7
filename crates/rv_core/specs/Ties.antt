-- What the parts of the core hold beside the hardware: functions of the instructions in flight, numbered from the oldest.
use Rattle.std.specs.Prelude.{◌≡◌, ℕ, ◌+◌, if◌then◌else◌, List, [], ◌∷◌, ◌++◌, slice_index_or, Option, Some, None}
use Rattle.rv_isa.specs.Instruction.{is_branch_or_jump, target_of_word}
use Rattle.rv_isa.specs.Operands.{sources_of}
use Rattle.rv_isa.specs.PerKind.{at_kind, by_kind}
use Rattle.rv_isa.specs.declared.{instructions.Instr.Instr, operations.Kind.Kind}
use Rattle.rv_isa.specs.declared.{per_kind.PerKind.PerKind, values.Values.Values}
use Rattle.rv_rename.specs.Renaming.{Checkpoint, Renaming}
use Rattle.rv_rename.specs.declared.producer.Producer.{Producer}
use Rattle.rv_rob.specs.ReorderBuffer.{ReorderBuffer}
use Rattle.rv_rob.specs.declared.entry.{Entry.Entry, Stage.Stage}
use Rattle.rv_rob.specs.declared.entry.Stage.TheVariants as stage
use Rattle.rv_stations.specs.Pool.{Pool}
use Rattle.rv_stations.specs.declared.waiting.{Operand.Operand, Waiting.Waiting}
use Rattle.rv_stations.specs.declared.waiting.Operand.TheVariants.{Value}
use Rattle.rv_stores.specs.Queue.{Queue}
use Rattle.rv_units.specs.Bus.{Pending}
use Rattle.rv_units.specs.declared.bus.PendingResult.{PendingResult}
use Rattle.rv_hardware.specs.Broadcast.{mends_early}
use Rattle.rv_hardware.specs.Dispatch.{is_stationed}
use Rattle.rv_hardware.specs.Hardware.{Hardware}
use Rattle.rv_watch.specs.Queue.{queue_of}
use Rattle.rv_watch.specs.Registers.{RegisterStatus, status_with, values_in}

-- the producer that an instruction is, where it writes a register
abbrev pub producer_of : ℕ → Option ℕ → List Producer
producer_of seq None = []
producer_of seq (Some register) = record { register = register; seq = seq } ∷ []

-- the older producers, and the one that an instruction is
abbrev pub producers_with : List Producer → ℕ → Entry → List Producer
producers_with older seq e = older ++ producer_of seq (target_of_word e.instruction)

-- the producers among some instructions, the first of which has a sequence number
abbrev pub producers_of : ℕ → List Entry → List Producer
producers_of seq [] = []
producers_of seq (e ∷ es) = producer_of seq (target_of_word e.instruction) ++ producers_of (seq + 1) es

-- a checkpoint for each branch or jump, of the producers up to it
abbrev pub checkpoints_of : List Producer → ℕ → List Entry → List Checkpoint
checkpoints_of older seq [] = []
checkpoints_of older seq (e ∷ es) =
    if is_branch_or_jump e.instruction
    then record { seq = seq; producers = producers_with older seq e }
    ∷ checkpoints_of (producers_with older seq e) (seq + 1) es
    else checkpoints_of (producers_with older seq e) (seq + 1) es

-- the rename map; checkpoints are for early recovery alone
abbrev pub renaming_of : Values → ReorderBuffer → Renaming
renaming_of values rob = record {
  capacity = values.rob;
  producers = producers_of rob.retired rob.entries;
  checkpoints = if mends_early values.recovery then checkpoints_of [] rob.retired rob.entries else [];
}

-- what an instruction reads: 0 where it reads no register
abbrev pub operand_of : RegisterStatus → Option ℕ → Operand
operand_of status None = Value 0
operand_of status (Some register) = status register

-- an instruction as it waits in a station
abbrev pub waiting_of : RegisterStatus → ℕ → ℕ → Instr → Waiting
waiting_of status seq pc instruction = record {
  seq = seq;
  pc = pc;
  instruction = instruction;
  first = operand_of status (slice_index_or (sources_of instruction) 0 None);
  second = operand_of status (slice_index_or (sources_of instruction) 1 None);
}

-- an instruction in flight that waits in a station of a kind, as the station has it
abbrev pub waiting_at : Kind → RegisterStatus → ℕ → Entry → Option Instr → List Waiting
waiting_at kind status seq e None = []
waiting_at kind status seq e (Some instruction) =
    if is_stationed kind e then waiting_of status seq e.pc instruction ∷ [] else []

-- the instructions in the stations of a kind
abbrev pub waiting_from : Kind → RegisterStatus → ℕ → List Entry → List Waiting
waiting_from kind status seq [] = []
waiting_from kind status seq (e ∷ es) =
    waiting_at kind status seq e e.instruction ++ waiting_from kind (status_with status seq e) (seq + 1) es

-- the stations of a kind
abbrev pub pool_of_kind : Values → List ℕ → ReorderBuffer → Kind → Pool
pool_of_kind values registers rob kind = record {
  waiting = waiting_from kind (values_in registers) rob.retired rob.entries;
  capacity = (at_kind kind values.kinds).stations;
}

-- the reservation stations
abbrev pub stations_of : Values → List ℕ → ReorderBuffer → PerKind Pool
stations_of values registers rob = by_kind (pool_of_kind values registers rob)

-- the result of an instruction in execution, and the cycle from which it can be broadcast
abbrev pub pending_of : ℕ → Stage → List PendingResult
pending_of seq stage.Waiting = []
pending_of seq (stage.Running issue message) = record { seq = seq; ready = issue.cycle + issue.cost } ∷ []
pending_of seq (stage.Finished issue cycle message) = []

-- the results of the instructions in execution
abbrev pub pending_from : ℕ → List Entry → List PendingResult
pending_from seq [] = []
pending_from seq (e ∷ es) = pending_of seq e.stage ++ pending_from (seq + 1) es

-- the common data bus
abbrev pub bus_of : Values → ReorderBuffer → Pending
bus_of values rob = record {
  results = pending_from rob.retired rob.entries;
  capacity = values.rob;
  width = values.bus_width;
}

-- what the parts hold beside the hardware follows from the instructions in flight
pub record AreTied (h : Hardware) (rename : Renaming) (stations : PerKind Pool) (bus : Pending)
    (queue : Queue) : Type 0 where
  pub renamed : rename ≡ renaming_of h.values h.rob
  pub stationed : stations ≡ stations_of h.values h.registers h.rob
  pub pending : bus ≡ bus_of h.values h.rob
  pub queued : queue ≡ queue_of h
