-- What a load takes and leaves of cache, port and older stores.
use Rattle.std.specs.Prelude.{◌≡◌, ℕ, ℤ, ◌+◌, ◌≤◌, true, false, List, length, is_some, None}
use Rattle.std.specs.List.{All}
use Rattle.rv_isa.specs.Operands.{kind_of}
use Rattle.rv_isa.specs.Operation.{bytes_of, width_of}
use Rattle.rv_isa.specs.Word.{modulo_word, sum}
use Rattle.rv_isa.specs.declared.{broadcast.Message.Message, instructions.Instr.Instr}
use Rattle.rv_isa.specs.declared.{lines.Lines.Lines, operations.LoadForm.LoadForm}
use Rattle.rv_isa.specs.declared.instructions.Instr.TheVariants.{Load}
use Rattle.rv_arch.specs.Effect.{loads}
use Rattle.rv_arch.specs.State.{State}
use Rattle.rv_cache.specs.Cache.{Contents, access_cost, accessed_sets, memory_after}
use Rattle.rv_memory.specs.Memory.{Layout, Memory}
use Rattle.rv_stations.specs.declared.waiting.Ready.{Ready}
use Rattle.rv_stores.specs.Queue.{Queue, older_than}
use Rattle.rv_stores.specs.declared.store.{Store.Store, StoreState.StoreState}
use Rattle.rv_stores.specs.declared.store.StoreState.TheVariants.{Waiting, Faulted, Filled}
use Rattle.rv_hardware.specs.InFlight.{bytes_after}
use Rattle.rv_hardware.specs.Issue.{Path as DefinedPath, Without as DefinedWithout}
use Rattle.rv_hardware.specs.Issue.{FromStores as DefinedFromStores, FromCache as DefinedFromCache}
use Rattle.rv_hardware.specs.Result.{effect_message, result_in}
use Rattle.rv_core.specs.Execution.{Reads}
use Rattle.rv_core.specs.Load.{path_of}
use Rattle.rv_core.specs.declared.load.{Path.Path, Times.Times}
use Rattle.rv_core.specs.declared.load.Path.TheVariants.{Without, FromStores, FromCache}

-- the definition's path
abbrev pub defined_path : ℕ → Path → DefinedPath
defined_path address (Without cause) = DefinedWithout
defined_path address (FromStores overlay) = DefinedFromStores
defined_path address (FromCache overlay) = DefinedFromCache address

-- the path of an instruction after some stores, by the value of its first register
abbrev pub load_path : Layout → List Store → ℕ → Instr → DefinedPath
load_path layout stores first (Load form rd rs1 offset) =
    defined_path (sum first (modulo_word offset))
    (path_of layout stores (sum first (modulo_word offset)) (bytes_of (width_of form)))
load_path layout stores first _ = DefinedWithout

-- the address that a ready load reads from: the sum of its register's value and its offset
abbrev pub address_of : Ready → ℤ → ℕ
address_of ready offset = sum ready.first (modulo_word offset)

-- the path of a ready load, after the stores that are older
abbrev pub path_of_load : Contents Memory → Queue → Ready → LoadForm → ℤ → DefinedPath
path_of_load cache queue ready form offset =
    defined_path (address_of ready offset)
    (path_of cache.backing.layout (older_than ready.seq queue.stores) (address_of ready offset)
    (bytes_of (width_of form)))

-- the path of a ready instruction, after the stores that are older
abbrev pub path_of_ready : Contents Memory → Queue → Ready → DefinedPath
path_of_ready cache queue ready =
    load_path cache.backing.layout (older_than ready.seq queue.stores) ready.first ready.instruction

-- the cycles that an execution takes: those of its unit, of stores that forward all, of an access to the cache
abbrev pub path_cost : ℕ → ℕ → Contents Memory → DefinedPath → ℕ
path_cost latency forward cache DefinedWithout = latency
path_cost latency forward cache DefinedFromStores = forward
path_cost latency forward cache (DefinedFromCache address) = access_cost cache address

-- the first cycle in which the port is idle: as before, or after an access that begins in this cycle
abbrev pub port_after : ℕ → ℕ → Contents Memory → DefinedPath → ℕ
port_after cycle port_free cache DefinedWithout = port_free
port_after cycle port_free cache DefinedFromStores = port_free
port_after cycle port_free cache (DefinedFromCache address) = cycle + access_cost cache address

-- the cycles of an execution along a path, by what its time depends on
abbrev pub cost_by : Times → Contents Memory → DefinedPath → ℕ
cost_by times cache path = path_cost times.latency times.forward cache path

-- the first cycle in which the port is idle then
abbrev pub port_free_by : Times → Contents Memory → DefinedPath → ℕ
port_free_by times cache path = port_after times.cycle times.port_free cache path

-- the cache once a load's bytes were read
abbrev pub cache_after : Contents Memory → DefinedPath → Contents Memory
cache_after cache DefinedWithout = cache
cache_after cache DefinedFromStores = cache
cache_after cache (DefinedFromCache address) = record cache {
  sets = accessed_sets cache address false;
  backing = record cache.backing { bytes = memory_after cache address cache.backing.bytes };
}

-- the cache is one of all bytes of its RAM
pub record IsOverRam (cache : Contents Memory) : Type 0 where
  pub base : cache.base ≡ cache.backing.layout.base
  pub size : length cache.bytes ≡ cache.backing.layout.size

-- what a store writes lies in so many bytes from a base on
abbrev pub LiesIn : ℕ → ℕ → StoreState → Type 0
LiesIn base size Waiting = Unit {0}
LiesIn base size Faulted = Unit {0}
LiesIn base size (Filled access phase) = (base ≤ access.address) × (access.address + length access.bytes ≤ base + size)

-- the bytes of all stores lie in RAM
abbrev pub LieIn : ℕ → ℕ → List Store → Type 0
LieIn base size stores = All (λ (s : Store). LiesIn base size s.state) stores

-- a state's memory is the cache's after some stores
pub record IsAfter (cache : Contents Memory) (stores : List Store) (s : State) : Type 0 where
  pub inside : LieIn cache.base (length cache.bytes) stores
  pub ram : s.ram ≡ bytes_after cache.base stores cache.bytes

-- the message is a ready load's, in each state that has the cache's memory after the stores that are older
abbrev pub IsLoaded : Contents Memory → Queue → Ready → LoadForm → ℕ → ℤ → Message → Type 0
IsLoaded cache queue ready form rd offset message =
    (s : State) → s.pc ≡ ready.pc → IsAfter cache (older_than ready.seq queue.stores) s →
    message ≡ effect_message None (loads cache.backing.layout s form rd (address_of ready offset))

-- the message is a ready instruction's, in each state that it reads and that has that memory, if it uses a unit
abbrev pub IsExecuted : Contents Memory → Queue → Ready → Message → Type 0
IsExecuted cache queue ready message =
    is_some (kind_of ready.instruction) ≡ true →
    (s : State) (lines : Lines) (word : ℕ) → Reads s ready.pc ready.first ready.second ready.instruction →
    IsAfter cache (older_than ready.seq queue.stores) s →
    message ≡ result_in cache.backing.layout s lines word ready.instruction
