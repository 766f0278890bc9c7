-- The forms of the hardware from turn to turn, and the longest times of an access, an execution and a write-back.
use Rattle.rv_hardware.proofs.Words.{◌≡◌, ℕ, ◌+◌, ◌*◌, List, [], ◌∷◌, ◌++◌, Option, greatest_access, greatest_latency}
use Rattle.rv_hardware.proofs.Words.{at_kind, with_kind, Message, StoreAccess, Instr, Lines, Kind, Layout, State}
use Rattle.rv_hardware.proofs.Words.{started, Entry, Hardware, result_of_word, committed_store, redirected}
use Rattle.rv_units.specs.Pool.{started as started_unit}

-- these instructions are in flight
abbrev pub with_entries : List Entry → Hardware → Hardware
with_entries es h = record h { rob = record h.rob { entries = es } }

-- nothing is in flight, in a state that retired instructions left, and fetch begins anew
abbrev pub emptied : State → ℕ → Hardware → Hardware
emptied s retired h = record h {
  pc = s.pc;
  registers = s.registers;
  csrs = s.csrs;
  stale = s.stale;
  rob = record h.rob { retired = retired; entries = [] };
  front = redirected s.pc h.front;
}

-- the oldest has left, with the store that it made
abbrev pub without_head : State → Option StoreAccess → List Entry → Hardware → Hardware
without_head s access es h = record h {
  pc = s.pc;
  registers = s.registers;
  stale = s.stale;
  committed = h.committed ++ committed_store h.rob.retired access;
  rob = record h.rob { retired = h.rob.retired + 1; entries = es };
}

-- an execution holds a unit
abbrev pub with_unit : Kind → ℕ → Hardware → Hardware
with_unit kind cost h = record h { units = with_kind kind (started_unit cost h.cycle (at_kind kind h.units)) h.units }

-- an instruction among the others begins its execution
abbrev pub with_started : Kind → ℕ → Message → List Entry → Entry → List Entry → Hardware → Hardware
with_started kind cost message older e younger h =
    with_entries (older ++ started (record { cycle = h.cycle; cost = cost }) message e ∷ younger)
    (with_unit kind cost h)

-- what an access to the cache costs at most
abbrev pub longest_access : Hardware → ℕ
longest_access h = greatest_access h.cache.values

-- no execution takes longer, or holds its unit for longer
abbrev pub longest_execution : Hardware → ℕ
longest_execution h = longest_access h + greatest_latency h.values + 1

-- what the write-back of all lines takes
abbrev pub longest_write_back : Hardware → ℕ
longest_write_back h = h.cache.values.sets * h.cache.values.ways * h.values.cache.write_back

-- a message that an instruction gives in some state
pub record IsResultOfWord (word : Option ℕ) (instruction : Option Instr) (message : Message) : Type 0 where
  pub layout : Layout
  pub state : State
  pub lines : Lines
  pub is : message ≡ result_of_word layout state lines word instruction
