-- What a dispatch makes of the parts that take an instruction up.
use Rattle.std.specs.Prelude.{ℕ, Bool, true, false, nat_le, length, ◌++◌, ◌∷◌, [], Option, Some, None}
use Rattle.rv_isa.specs.Operands.{kind_of}
use Rattle.rv_isa.specs.PerKind.{at_kind, with_kind}
use Rattle.rv_isa.specs.declared.{instructions.Instr.Instr, operations.Kind.Kind, per_kind.PerKind.PerKind}
use Rattle.rv_rename.specs.Renaming.{Renaming, checkpointed, defined}
use Rattle.rv_stations.specs.Pool.{with_waiting, Pool}
use Rattle.rv_stations.specs.declared.waiting.Waiting.{Waiting}
use Rattle.rv_stores.specs.Queue.{Queue}
use Rattle.rv_stores.specs.Store.{entered}
use Rattle.rv_watch.specs.Registers.{RegisterStatus}
use Rattle.rv_core.specs.Ties.{waiting_of}

-- the instruction is the youngest that writes its target
abbrev pub with_target : ℕ → Option ℕ → Renaming → Renaming
with_target seq None rename = rename
with_target seq (Some register) rename = defined register seq rename

-- a branch or a jump notes who writes each register
abbrev pub with_jump : Bool → ℕ → Renaming → Renaming
with_jump false seq rename = rename
with_jump true seq rename = checkpointed seq rename

-- an instruction that uses a unit waits in a station of its kind
abbrev pub with_station : Option Kind → Waiting → PerKind Pool → PerKind Pool
with_station None waiting stations = stations
with_station (Some kind) waiting stations = with_kind kind (with_waiting waiting (at_kind kind stations)) stations

-- the stations once an instruction was dispatched, if the word is one
abbrev pub with_instruction : RegisterStatus → ℕ → ℕ → Option Instr → PerKind Pool → PerKind Pool
with_instruction status seq pc None stations = stations
with_instruction status seq pc (Some instruction) stations =
    with_station (kind_of instruction) (waiting_of status seq pc instruction) stations

-- a store enters the queue
abbrev pub with_store : Bool → ℕ → Queue → Queue
with_store false seq queue = queue
with_store true seq queue = record queue { stores = queue.stores ++ entered seq ∷ [] }

-- the stations of an instruction's kind are full
abbrev pub are_full_for : Option Kind → PerKind Pool → Bool
are_full_for None stations = false
are_full_for (Some kind) stations = nat_le (at_kind kind stations).capacity (length (at_kind kind stations).waiting)
