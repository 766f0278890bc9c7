-- The oldest instruction is ready where it waits and can go, and only a load of the memory unit accesses the cache.
use Rattle.rv_hardware.proofs.Words.{◌≡◌, ℕ, ◌≤◌, Bool, true, false, not, ◌&&◌, ◌||◌, ◌⊎◌, List, [], ◌∷◌, nat_le, Some}
use Rattle.rv_hardware.proofs.Words.{None, Option, refl, le-leb, and_from, or_right, is_same-own, is_same-true, is_load}
use Rattle.rv_hardware.proofs.Words.{kind_of_word, Instr, Kind, State, Entry, Hardware, is_waiting, FromCache, Path}
use Rattle.rv_hardware.proofs.Words.{has_operands, has_port, is_ready, may_load, path, path_of, arith}
use Rattle.rv_isa.specs.declared.operations.Kind.TheVariants as kind
use Rattle.rv_hardware.proofs.Turns.KeptByIssue.{ready-parts}

-- a load is an instruction of the memory unit
pub loads_of_mem : (instruction : Option Instr) → is_load instruction ≡ true → kind_of_word instruction ≡ Some kind.Mem
loads_of_mem instruction is = grind arith

-- ---- an access to the cache
loads_by : (h : Hardware) (older : List Entry) (s : State) (instruction : Option Instr) (address : ℕ) →
    path_of h older s instruction ≡ FromCache address → is_load instruction ≡ true
loads_by h older s instruction address by = grind arith

port_of_load : (load known port : Bool) → (not load || (known && port)) ≡ true → load ≡ true → port ≡ true
port_of_load load known port may is = grind arith

pub record IsAccess (h : Hardware) (k : Kind) (e : Entry) : Type 0 where
  pub load : is_load e.instruction ≡ true
  pub of_mem : k ≡ kind.Mem
  pub idle : nat_le h.port_free h.cycle ≡ true

-- an instruction that is ready and goes to the cache is a load, and the port is idle
pub cache_access : (h : Hardware) (k : Kind) (older : List Entry) (e : Entry) (address : ℕ) →
    is_ready h k older e ≡ true → path h older e ≡ FromCache address → IsAccess h k e
cache_access h k older e address ready by =
    grind (arith, ready-parts, loads_by, port_of_load, is_same-true, loads_of_mem)

-- ---- the oldest instruction: its operands are known, and no store before it is unknown
known_operands : (sources : List (Option ℕ)) → has_operands [] sources ≡ true
known_operands [] = refl
known_operands (None ∷ sources) = known_operands sources
known_operands (Some register ∷ sources) = known_operands sources

-- it is no load, or no retired store is left and the port is idle
abbrev pub CanGo : Option Instr → Hardware → Type 0
CanGo instruction h = (is_load instruction ≡ false) ⊎ ((h.committed ≡ []) × (h.port_free ≤ h.cycle))

idle_port : (h : Hardware) (p : Path) → h.port_free ≤ h.cycle → has_port h p ≡ true
idle_port h p idle = grind (arith, le-leb)

may_go : (h : Hardware) (e : Entry) → CanGo e.instruction h → may_load h [] e ≡ true
may_go h e given = grind (arith, or_right, and_from, idle_port)

-- the oldest instruction is ready where it waits and can go
pub ready_head : (h : Hardware) (k : Kind) (e : Entry) → is_waiting e.stage ≡ true →
    kind_of_word e.instruction ≡ Some k → CanGo e.instruction h → is_ready h k [] e ≡ true
ready_head h k e given of_kind can = grind (arith, is_same-own, and_from, known_operands, may_go)
