-- The issue phase: for each kind of unit, the oldest instructions that are ready leave for the units that are free.
use Rattle.std.specs.Prelude.{ℕ, ◌+◌, ◌&&◌, ◌||◌, not, nat_le, Bool, true, false, if◌then◌else◌}
use Rattle.std.specs.Prelude.{List, [], ◌∷◌, ◌++◌, length, take, Option, Some, None, is_some}
use Rattle.std.specs.List.{list_all}
use Rattle.rv_isa.specs.Instruction.{is_load, is_of_kind, kind_of_word, sources_of_word}
use Rattle.rv_isa.specs.Operation.{bytes_of, width_of}
use Rattle.rv_isa.specs.PerKind.{at_kind, with_kind}
use Rattle.rv_isa.specs.Word.{sum, modulo_word}
use Rattle.rv_isa.specs.declared.{broadcast.Message.Message, instructions.Instr.Instr, operations.Kind.Kind}
use Rattle.rv_isa.specs.declared.instructions.Instr.TheVariants.{Load}
use Rattle.rv_isa.specs.declared.operations.Kind.TheVariants as kind
use Rattle.rv_arch.specs.State.{State, register_of}
use Rattle.rv_memory.specs.Memory.{is_aligned, is_in_ram}
use Rattle.rv_cache.specs.Cache.{access_cost, accessed_sets, memory_after}
use Rattle.rv_rob.specs.Entry.{started}
use Rattle.rv_rob.specs.ReorderBuffer.{changed}
use Rattle.rv_rob.specs.declared.entry.Entry.{Entry}
use Rattle.rv_stores.specs.Queue.{forwarded}
use Rattle.rv_stores.specs.Store.{is_known as is_known_store}
use Rattle.rv_units.specs.Pool.{is_free, started as started_unit}
use Rattle.rv_hardware.specs.Hardware.{Hardware}
use Rattle.rv_hardware.specs.InFlight.{is_waiting, is_known}
use Rattle.rv_hardware.specs.Repeated.{Turn, GoesOn, Ends, repeated}
use Rattle.rv_hardware.specs.Result.{result_of_word}
use Rattle.rv_hardware.specs.Seen.{layout_of, state_after, stores_after}

-- where an instruction takes its bytes from memory
pub data Path : Type 0 where
  -- it is no load, or one that faults
  Without : Path
  -- every byte comes from older stores
  FromStores : Path
  -- the cache is accessed at this address
  FromCache : ℕ → Path

-- the way of a load of some bytes at an address
abbrev pub path_of_load : Hardware → List Entry → ℕ → ℕ → Path
path_of_load h older address count =
    if not (is_aligned address count && is_in_ram (layout_of h.values) address count) then Without
    else (if list_all is_some (take count (forwarded (stores_after h older) address count)) then FromStores
    else FromCache address)

-- the way of an instruction that executes in a state
abbrev pub path_of : Hardware → List Entry → State → Option Instr → Path
path_of h older s (Some (Load form rd rs1 offset)) =
    path_of_load h older (sum (register_of s rs1) (modulo_word offset)) (bytes_of (width_of form))
path_of h older s _ = Without

-- the way of an entry after the older ones
abbrev pub path : Hardware → List Entry → Entry → Path
path h older e = path_of h older (state_after h older e.pc) e.instruction

-- the cycles from issue until the result can be broadcast
abbrev pub cost_of : Hardware → Kind → Path → ℕ
cost_of h kind Without = (at_kind kind h.values.kinds).latency
cost_of h kind FromStores = h.values.forward
cost_of h kind (FromCache address) = access_cost h.cache address

-- the cache must be accessed through an idle port
abbrev pub has_port : Hardware → Path → Bool
has_port h Without = true
has_port h FromStores = true
has_port h (FromCache address) = nat_le h.port_free h.cycle

-- every register that an instruction reads is known after the older ones
abbrev pub has_operands : List Entry → List (Option ℕ) → Bool
has_operands older [] = true
has_operands older (None ∷ sources) = has_operands older sources
has_operands older (Some register ∷ sources) = is_known older register && has_operands older sources

-- a load waits until every older store was broadcast, and for the port where it needs it
abbrev pub may_load : Hardware → List Entry → Entry → Bool
may_load h older e =
    not (is_load e.instruction) || (list_all is_known_store (stores_after h older) && has_port h (path h older e))

-- an instruction of a kind that can leave its station
abbrev pub is_ready : Hardware → Kind → List Entry → Entry → Bool
is_ready h kind older e =
    is_waiting e.stage && is_of_kind kind (kind_of_word e.instruction)
    && has_operands older (sources_of_word e.instruction) && may_load h older e

-- the oldest instruction that passes a test, with those that are older
abbrev pub oldest_from : (List Entry → Entry → Bool) → List Entry → List Entry → Option (List Entry × Entry)
oldest_from test older [] = None
oldest_from test older (e ∷ es) = if test older e then Some (older, e) else oldest_from test (older ++ e ∷ []) es

-- the oldest entry that passes a test, with all that are older
abbrev pub oldest : (List Entry → Entry → Bool) → List Entry → Option (List Entry × Entry)
oldest test entries = oldest_from test [] entries

-- the cache and its port once an instruction's bytes were read
abbrev pub with_access : Path → Hardware → Hardware
with_access Without h = h
with_access FromStores h = h
with_access (FromCache address) h = record h {
  cache = record h.cache {
    sets = accessed_sets h.cache address false;
    backing = record h.cache.backing { bytes = memory_after h.cache address h.cache.backing.bytes };
  };
  port_free = h.cycle + access_cost h.cache address;
}

-- an instruction begins its execution, which holds a unit; what it gives is known from now on
abbrev pub with_start : Kind → ℕ → ℕ → Message → Hardware → Hardware
with_start kind seq cost message h = record h {
  units = with_kind kind (started_unit cost h.cycle (at_kind kind h.units)) h.units;
  rob = changed (started (record { cycle = h.cycle; cost = cost }) message) seq h.rob;
}

-- an entry after these older ones leaves its station for a unit
abbrev pub issued : Kind → Hardware → List Entry → Entry → Hardware
issued kind h older e =
    with_start kind (h.rob.retired + length older) (cost_of h kind (path h older e))
    (result_of_word (layout_of h.values) (state_after h older e.pc) h.lines e.word e.instruction)
    (with_access (path h older e) h)

-- the entry that was found leaves; where none was, the turns of the kind end
abbrev pub issue_oldest : Kind → Hardware → Option (List Entry × Entry) → Turn Hardware
issue_oldest kind h None = Ends h
issue_oldest kind h (Some found) = GoesOn (issued kind h found.0 found.1)

-- one turn: a free unit takes the oldest ready instruction of its kind
abbrev pub issue_turn : Kind → Hardware → Turn Hardware
issue_turn kind h =
    if is_free h.cycle (at_kind kind h.units)
    then issue_oldest kind h (oldest (is_ready h kind) h.rob.entries)
    else Ends h

-- as many turns of a kind as it has units
abbrev pub issue_kind : Kind → Hardware → Hardware
issue_kind kind h = repeated (issue_turn kind) (at_kind kind h.values.kinds).units h

-- the issue phase: kind by kind
abbrev pub issue : Hardware → Hardware
issue h = issue_kind kind.Mem (issue_kind kind.Div (issue_kind kind.Mul (issue_kind kind.Alu h)))
