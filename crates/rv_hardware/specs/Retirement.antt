-- What the retirement of the oldest instruction leaves and reports.
use Rattle.std.specs.Prelude.{ℕ, List, [], ◌∷◌, ◌++◌, Option, Some, None}
use Rattle.std.specs.{Option.option_map, Option.unwrap_or, Ordering.nat_cmp}
use Rattle.std.specs.FinSet as set
use Rattle.rv_isa.specs.Instruction.{target_of_word}
use Rattle.rv_isa.specs.declared.broadcast.{Message.Message, StoreAccess.StoreAccess}
use Rattle.rv_memory.specs.Memory.{word_of}
use Rattle.rv_rob.specs.ReorderBuffer.{head_retired}
use Rattle.rv_rob.specs.declared.entry.{Entry.Entry, Stage.Stage}
use Rattle.rv_rob.specs.declared.entry.Stage.TheVariants.{Waiting, Running, Finished}
use Rattle.rv_stores.specs.declared.store.Store.{Store as QueuedStore}
use Rattle.rv_stores.specs.declared.store.StorePhase.TheVariants.{Committed}
use Rattle.rv_stores.specs.declared.store.StoreState.TheVariants.{Filled}
use Rattle.rv_hardware.specs.Hardware.{Hardware}
use Rattle.rv_hardware.specs.InFlight.{with_value}
use Rattle.rv_hardware.specs.declared.step.{Execution.Execution, Step.Step}
use Rattle.rv_hardware.specs.declared.step.Step.TheVariants as step

-- when an instruction was executed; one that uses no unit was not
abbrev pub execution_of : Stage → Option Execution
execution_of Waiting = None
execution_of (Running issue message) = None
execution_of (Finished None cycle message) = None
execution_of (Finished (Some issue) cycle message) =
    Some (record { issued = issue.cycle; cost = issue.cost; broadcast = cycle })

-- the reported row of the head
abbrev pub row_of : Entry → Option (ℕ × ℕ) → ℕ → Step
row_of e written cycle = step.Retired (record {
  pc = e.pc;
  word = unwrap_or e.word 0;
  written = written;
  fetched = e.fetched;
  dispatched = e.dispatched;
  execution = execution_of e.stage;
  retired = cycle;
})

-- a retired store, which waits for the cache's port
abbrev pub committed_store : ℕ → Option StoreAccess → List QueuedStore
committed_store seq None = []
committed_store seq (Some access) = record { seq = seq; state = Filled access Committed } ∷ []

-- a retired store makes its word stale
abbrev pub stale_after : Option StoreAccess → set.FinSet nat_cmp → set.FinSet nat_cmp
stale_after None words = words
stale_after (Some access) words = set.insert words (word_of access.address)

-- the head has retired with its result
abbrev pub with_result : Entry → Message → Hardware → Hardware
with_result e message h = record h {
  pc = message.next_pc;
  registers = with_value h.registers (target_of_word e.instruction) (Some message);
  committed = h.committed ++ committed_store h.rob.retired message.store;
  stale = stale_after message.store h.stale;
  rob = head_retired h.rob;
}

-- the register that a result is written to
abbrev pub written_of : Entry → Message → Option (ℕ × ℕ)
written_of e message = option_map (λ (register : ℕ). (register, message.value)) (target_of_word e.instruction)
