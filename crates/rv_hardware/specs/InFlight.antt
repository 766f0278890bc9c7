-- What the instructions in flight have done so far, oldest first.
use Rattle.std.specs.Prelude.{ℕ, ◌+◌, ◌-◌, Bool, true, false, if◌then◌else◌, List, [], ◌∷◌, Option, Some, None, is_some}
use Rattle.rv_isa.specs.Instruction.{is_store, is_target, target_of_word}
use Rattle.rv_isa.specs.declared.{broadcast.Message.Message, broadcast.StoreAccess.StoreAccess}
use Rattle.rv_arch.specs.State.{with_register}
use Rattle.rv_memory.specs.Bytes.{overwritten}
use Rattle.rv_rob.specs.declared.entry.{Entry.Entry, Stage.Stage}
use Rattle.rv_rob.specs.declared.entry.Stage.TheVariants.{Waiting, Running, Finished}
use Rattle.rv_stores.specs.declared.store.{Store.Store as QueuedStore, StoreState.StoreState}
use Rattle.rv_stores.specs.declared.store.StoreState.TheVariants as store
use Rattle.rv_stores.specs.declared.store.StorePhase.TheVariants.{Speculative}

-- the stage is that of waiting
abbrev pub is_waiting : Stage → Bool
is_waiting Waiting = true
is_waiting (Running issue message) = false
is_waiting (Finished issue cycle message) = false

-- what was broadcast, or was known at dispatch
abbrev pub broadcast_of : Stage → Option Message
broadcast_of Waiting = None
broadcast_of (Running issue message) = None
broadcast_of (Finished issue cycle message) = Some message

-- an entry writes a register
abbrev pub writes : Entry → ℕ → Bool
writes e register = is_target register (target_of_word e.instruction)

-- a register is known after some instructions where the youngest of them that writes it was broadcast
abbrev pub is_known_from : Bool → List Entry → ℕ → Bool
is_known_from known [] register = known
is_known_from known (e ∷ es) register =
    is_known_from (if writes e register then is_some (broadcast_of e.stage) else known) es register

-- the value of a register after older instructions is known
abbrev pub is_known : List Entry → ℕ → Bool
is_known older register = is_known_from true older register

-- the registers once a result was written to its target
abbrev pub with_value : List ℕ → Option ℕ → Option Message → List ℕ
with_value registers None message = registers
with_value registers (Some target) None = registers
with_value registers (Some target) (Some message) = with_register registers target message.value

-- the registers after some instructions, as far as their results were broadcast
abbrev pub registers_after : List ℕ → List Entry → List ℕ
registers_after registers [] = registers
registers_after registers (e ∷ es) =
    registers_after (with_value registers (target_of_word e.instruction) (broadcast_of e.stage)) es

-- what is known of a store: a faulting one covers no byte
abbrev pub store_of_message : Option StoreAccess → StoreState
store_of_message None = store.Faulted
store_of_message (Some access) = store.Filled access Speculative

-- what a store has come to, by its broadcast
abbrev pub store_of_broadcast : Option Message → StoreState
store_of_broadcast None = store.Waiting
store_of_broadcast (Some message) = store_of_message message.store

-- the stores among some instructions, the first of which has a sequence number
abbrev pub stores_of : ℕ → List Entry → List QueuedStore
stores_of seq [] = []
stores_of seq (e ∷ es) =
    if is_store e.instruction
    then record { seq = seq; state = store_of_broadcast (broadcast_of e.stage) } ∷ stores_of (seq + 1) es
    else stores_of (seq + 1) es

-- bytes once a store took effect on them
abbrev pub with_store : ℕ → StoreState → List ℕ → List ℕ
with_store base store.Waiting bytes = bytes
with_store base store.Faulted bytes = bytes
with_store base (store.Filled access phase) bytes = overwritten bytes (access.address - base) access.bytes

-- the bytes of memory from address base on, once stores have written theirs, the oldest first
abbrev pub bytes_after : ℕ → List QueuedStore → List ℕ → List ℕ
bytes_after base [] bytes = bytes
bytes_after base (s ∷ ss) bytes = bytes_after base ss (with_store base s.state bytes)
