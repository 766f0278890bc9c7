-- Where a load takes its bytes from: the older stores or the cache.
use Rattle.std.specs.Prelude.{ℕ, ◌&&◌, ◌||◌, not, nat_lt, Bool, true, false, if◌then◌else◌, List, []}
use Rattle.std.specs.Prelude.{◌∷◌, map, take, slice_index, slice_index_or, Option, Some, None, is_some}
use Rattle.std.specs.{List.list_all, Option.unwrap_or}
use Rattle.rv_isa.specs.Operation.{bytes_of, width_of}
use Rattle.rv_isa.specs.Word.{modulo_word, sum}
use Rattle.rv_isa.specs.declared.{causes.Cause.Cause, instructions.Instr.Instr, operations.Kind.Kind}
use Rattle.rv_isa.specs.declared.causes.Cause.TheVariants.{LoadAddressMisaligned, LoadAccessFault}
use Rattle.rv_isa.specs.declared.causes.Cause.TheVariants.{StoreAddressMisaligned, StoreAccessFault}
use Rattle.rv_isa.specs.declared.instructions.Instr.TheVariants.{Load}
use Rattle.rv_isa.specs.declared.operations.Kind.TheVariants.{Alu, Mul, Div, Mem}
use Rattle.rv_cache.specs.Cache.{Contents}
use Rattle.rv_memory.specs.Memory.{Layout, Memory, is_aligned, is_in_ram, is_writable}
use Rattle.rv_stores.specs.Queue.{Queue, first_unknown, forwarded, older_than}
use Rattle.rv_stores.specs.declared.store.Store.{Store}
use Rattle.rv_stations.specs.declared.waiting.{Operand.Operand, Waiting.Waiting}
use Rattle.rv_stations.specs.declared.waiting.Operand.TheVariants.{Value}
use Rattle.rv_core.specs.declared.load.Path.{Path}
use Rattle.rv_core.specs.declared.load.Path.TheVariants.{Without, FromStores, FromCache}

-- the fault of a load, if it has one: alignment is tested before the range
abbrev pub load_fault : Layout → ℕ → ℕ → Option Cause
load_fault layout address count =
    if not (is_aligned address count) then Some LoadAddressMisaligned
    else (if not (is_in_ram layout address count) then Some LoadAccessFault else None)

-- the fault of a store, if it has one
abbrev pub store_fault : Layout → ℕ → ℕ → Option Cause
store_fault layout address count =
    if not (is_aligned address count) then Some StoreAddressMisaligned
    else (if not (is_writable layout address count) then Some StoreAccessFault else None)

-- the stores forward every byte of an access
abbrev pub is_forwarded : List (Option ℕ) → ℕ → Bool
is_forwarded overlay count = list_all is_some (take count overlay)

-- the way of a load over what the older stores give
abbrev pub path_over : List (Option ℕ) → ℕ → Path
path_over overlay count = if is_forwarded overlay count then FromStores overlay else FromCache overlay

-- the way of a load, which a cause may stop
abbrev pub path_unless : Option Cause → List (Option ℕ) → ℕ → Path
path_unless (Some cause) overlay count = Without cause
path_unless None overlay count = path_over overlay count

-- the path of a load after some stores
abbrev pub path_of : Layout → List Store → ℕ → ℕ → Path
path_of layout stores address count =
    path_unless (load_fault layout address count) (forwarded stores address count) count

-- the byte that the stores forward to a place of an access, else the one below
abbrev pub byte_over : List (Option ℕ) → List ℕ → ℕ → ℕ
byte_over overlay bytes offset = unwrap_or (slice_index_or overlay offset None) (slice_index bytes offset)

-- bytes with those that the stores forward laid over them
abbrev pub bytes_over : List (Option ℕ) → List ℕ → List ℕ
bytes_over overlay bytes = map (byte_over overlay bytes) (0 ∷ 1 ∷ 2 ∷ 3 ∷ [])

-- the cache is accessed
abbrev pub needs_port : Path → Bool
needs_port (Without cause) = false
needs_port (FromStores overlay) = false
needs_port (FromCache overlay) = true

-- no store before a number is unknown
abbrev pub is_known_before : Option ℕ → ℕ → Bool
is_known_before None seq = true
is_known_before (Some unknown) seq = not (nat_lt unknown seq)

-- a load whose address is known does not need the port
abbrev pub can_do_without : Layout → List Store → ℕ → Operand → Instr → Bool
can_do_without layout stores seq (Value base) (Load form rd rs1 offset) =
    not (needs_port (path_of layout (older_than seq stores) (sum base (modulo_word offset)) (bytes_of (width_of form))))
can_do_without layout stores seq _ _ = false

-- the instruction loads
abbrev pub is_load : Instr → Bool
is_load (Load form rd rs1 offset) = true
is_load _ = false

-- a waiting access may go: a load waits until every older store is known, and for the port where it needs it
abbrev pub may_go : Layout → List Store → Option ℕ → Bool → Waiting → Bool
may_go layout stores first_unknown port_idle w =
    not (is_load w.instruction)
    || (is_known_before first_unknown w.seq && (port_idle || can_do_without layout stores w.seq w.first w.instruction))

-- the instructions of a kind that may go: all but loads that wait
abbrev pub goes : Kind → Layout → List Store → Bool → Waiting → Bool
goes Alu layout stores port_idle w = true
goes Mul layout stores port_idle w = true
goes Div layout stores port_idle w = true
goes Mem layout stores port_idle w = may_go layout stores (first_unknown stores) port_idle w

-- the same over a cache and a store queue
abbrev pub goes_over : Kind → Contents Memory → Queue → Bool → Waiting → Bool
goes_over kind cache queue port_idle w = goes kind cache.backing.layout queue.stores port_idle w
