-- What holds of the hardware between two phases of a cycle.
use Rattle.std.specs.Prelude.{◌≡◌, ℕ, ◌+◌, ◌*◌, ◌^◌, ◌<◌, ◌≤◌, Bool, true, false, List}
use Rattle.std.specs.Prelude.{length, Option, Some, None, option_and_then, IfSome}
use Rattle.std.specs.List.{All, AllPairs}
use Rattle.rv_isa.specs.Description.{IsLegal}
use Rattle.rv_isa.specs.Instruction.{is_serialising, is_store, target_of_word}
use Rattle.rv_isa.specs.Numbered.{AreBelow}
use Rattle.rv_isa.specs.declared.{broadcast.Message.Message, broadcast.StoreAccess.StoreAccess}
use Rattle.rv_isa.specs.declared.{causes.Fault.Fault, values.Values.Values}
use Rattle.rv_decode.specs.Decodes.{instruction_of}
use Rattle.rv_memory.specs.Memory.{Memory}
use Rattle.rv_cache.specs.Cache.{Contents, IsAligned}
use Rattle.rv_front.specs.declared.fetched.Fetched.{Fetched}
use Rattle.rv_rob.specs.ReorderBuffer.{ReorderBuffer}
use Rattle.rv_rob.specs.declared.entry.{Entry.Entry, Stage.Stage}
use Rattle.rv_rob.specs.declared.entry.Stage.TheVariants.{Waiting, Running, Finished}
use Rattle.rv_stores.specs.declared.store.{Store.Store as QueuedStore, StoreState.StoreState}
use Rattle.rv_stores.specs.declared.store.StorePhase.TheVariants.{Speculative, Committed, Draining}
use Rattle.rv_stores.specs.declared.store.StoreState.TheVariants as store
use Rattle.rv_hardware.specs.Hardware.{Hardware}
use Rattle.rv_hardware.specs.Seen.{layout_of}

-- what a store writes: 1, 2 or 4 bytes at a multiple of their number, in RAM
pub record IsLegalAccess (values : Values) (access : StoreAccess) : Type 0 where
  pub aligned : IsAligned access.address (length access.bytes)
  pub from_base : values.ram_base ≤ access.address
  pub to_end : access.address + length access.bytes ≤ values.ram_base + values.ram_size

-- a store that does not fault writes something, and nothing else does
abbrev pub IsLegalWrite : Values → Bool → Option Fault → Option StoreAccess → Type 0
IsLegalWrite values false fault None = Unit {0}
IsLegalWrite values false fault (Some access) = ⊥
IsLegalWrite values true None None = ⊥
IsLegalWrite values true None (Some access) = IsLegalAccess values access
IsLegalWrite values true (Some fault) None = Unit {0}
IsLegalWrite values true (Some fault) (Some access) = ⊥

-- what an instruction gives, known from its start on
abbrev pub message_of : Stage → Option Message
message_of Waiting = None
message_of (Running issue message) = Some message
message_of (Finished issue cycle message) = Some message

-- what holds of an instruction in flight
pub record IsSoundEntry (values : Values) (e : Entry) : Type 0 where
  pub decoded : e.instruction ≡ option_and_then instruction_of e.word
  pub target : IfSome (target_of_word e.instruction) (λ register. register < 32)
  pub writes : IfSome (message_of e.stage)
      (λ message. IsLegalWrite values (is_store e.instruction) message.fault message.store)

-- what holds of a store that has retired
abbrev pub IsRetiredStore : Values → StoreState → Type 0
IsRetiredStore values store.Waiting = ⊥
IsRetiredStore values store.Faulted = ⊥
IsRetiredStore values (store.Filled access Speculative) = ⊥
IsRetiredStore values (store.Filled access Committed) = IsLegalAccess values access
IsRetiredStore values (store.Filled access Draining) = IsLegalAccess values access

-- the cache is the described one, over the described RAM
pub record IsDescribedCache (described : Values) (cache : Contents Memory) : Type 0 where
  pub base : cache.base ≡ described.ram_base
  pub values : cache.values ≡ described.cache
  pub bytes : length cache.bytes ≡ described.ram_size
  pub layout : cache.backing.layout ≡ layout_of described

-- what holds of the instructions in flight: none stands after a serialising one
pub record AreSoundEntries (values : Values) (cycle : ℕ) (rob : ReorderBuffer) : Type 0 where
  pub capacity : rob.capacity ≡ values.rob
  pub within : length rob.entries ≤ values.rob
  pub numbers : rob.retired ≤ 8 * cycle + 8
  pub each : All (IsSoundEntry values) rob.entries
  pub serial : AllPairs (λ older younger. is_serialising older.instruction ≡ false) rob.entries

-- what holds of the retired stores that wait for the cache: they are older than all in flight
pub record AreSoundStores (values : Values) (retired : ℕ) (committed : List QueuedStore) : Type 0 where
  pub each : All (λ (s : QueuedStore). IsRetiredStore values s.state) committed
  pub older : AreBelow (λ (s : QueuedStore). s.seq) retired committed

-- the instruction of a fetched word is the word's
abbrev pub IsDecoded : Fetched → Type 0
IsDecoded f = f.instruction ≡ option_and_then instruction_of f.word

-- what holds of the hardware between two phases
pub record IsSoundHardware (h : Hardware) : Type 0 where
  pub legal : IsLegal h.values
  pub cycles : h.cycle ≤ 2 ^ 40
  pub port : h.port_free ≤ 2 ^ 43
  pub registers : length h.registers ≡ 32
  pub cache : IsDescribedCache h.values h.cache
  pub entries : AreSoundEntries h.values h.cycle h.rob
  pub stores : AreSoundStores h.values h.rob.retired h.committed
  pub fetched : All IsDecoded h.front.entries
