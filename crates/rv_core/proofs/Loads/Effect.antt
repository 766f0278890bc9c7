-- A load or a store with a fault gives that fault, and one without lies in RAM and gives what it reads or writes.
use Rattle.std.proofs.Common.{arith}
use Rattle.rv_core.proofs.Words.{◌≡◌, ℕ, ◌+◌, ◌%◌, ◌≤◌, true, List, Some, None, Option, and_parts, bytes_of}
use Rattle.rv_core.proofs.Words.{is_sign_extended, width_of, pc_plus_4, StoreAccess, Cause, LoadForm, Width, Layout}
use Rattle.rv_core.proofs.Words.{number_at, extended, loads, stores, State, IsAligned, effect_message, fault_message}
use Rattle.rv_core.proofs.Words.{writes, is_forwarded, load_fault, path_unless, store_fault}
use Rattle.rv_core.specs.declared.load.Path.TheVariants.{Without, FromStores, FromCache}
use Rattle.rv_core.specs.declared.load.Path.{Path}

module _ (layout : Layout) (address : ℕ) where
  -- a load with a fault gives that fault
  pub load_faults : (s : State) (form : LoadForm) (rd : ℕ) (cause : Cause) →
      load_fault layout address (bytes_of (width_of form)) ≡ Some cause →
      effect_message None (loads layout s form rd address) ≡ fault_message cause address
  load_faults s form rd cause is = grind arith

  -- without a fault a load gives the number at its address, extended
  pub load_gives : (s : State) (form : LoadForm) (rd : ℕ) →
      load_fault layout address (bytes_of (width_of form)) ≡ None →
      effect_message None (loads layout s form rd address)
      ≡ effect_message None (writes s rd
      (extended (is_sign_extended form) (bytes_of (width_of form))
      (number_at layout s.ram address (bytes_of (width_of form))))
      (pc_plus_4 s.pc))
  load_gives s form rd is = grind arith

  -- and lies in RAM, at a multiple of its width
  pub load_within : (count : ℕ) → load_fault layout address count ≡ None →
      (address % count ≡ 0) × (layout.base ≤ address) × (address + count ≤ layout.base + layout.size)
  load_within count is = grind (arith, and_parts)

  -- a store with a fault gives that fault
  pub store_faults : (s : State) (width : Width) (word : ℕ) (access : Option StoreAccess) (cause : Cause) →
      store_fault layout address (bytes_of width) ≡ Some cause →
      effect_message access (stores layout s width address word) ≡ fault_message cause address
  store_faults s width word access cause is = grind arith

  -- without a fault a store gives what it writes
  pub store_gives : (s : State) (width : Width) (word : ℕ) (access : Option StoreAccess) →
      store_fault layout address (bytes_of width) ≡ None →
      effect_message access (stores layout s width address word)
      ≡ record { value = 0; fault = None; next_pc = pc_plus_4 s.pc; store = access }
  store_gives s width word access is = grind arith

  -- and lies in writable RAM, at a multiple of its width
  pub store_within : (count : ℕ) → store_fault layout address count ≡ None →
      (address % count ≡ 0) × (layout.base + layout.rom_bytes ≤ address) × (address + count ≤ layout.base + layout.size)
  store_within count is = grind (arith, and_parts)

-- an address that is a multiple of a width is aligned for as many bytes
pub aligned_width : (width : Width) (address : ℕ) → address % bytes_of width ≡ 0 → IsAligned address (bytes_of width)
aligned_width width address is = grind arith

-- what is known by the path that was found

-- of a path: its fault, or its bytes from the stores, which are all or not
abbrev pub PathFacts : Option Cause → List (Option ℕ) → ℕ → Path → Type 0
PathFacts fault overlay count (Without cause) = fault ≡ Some cause
PathFacts fault overlay count (FromStores found) = (fault ≡ None) × (found ≡ overlay)
    × (is_forwarded overlay count ≡ true)
PathFacts fault overlay count (FromCache found) = (fault ≡ None) × (found ≡ overlay)

-- so it is of the path that is found
pub path_facts : (fault : Option Cause) (overlay : List (Option ℕ)) (count : ℕ) →
    PathFacts fault overlay count (path_unless fault overlay count)
path_facts fault overlay count = grind arith
