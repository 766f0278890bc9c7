-- What is known of the hardware when a cycle begins, and who holds its port.
use Rattle.std.specs.Prelude.{ℕ, ◌||◌, Bool, true, false, length, List, Option, Some, None, slice_get}
use Rattle.rv_hardware.specs.Draining.{drain_end}
use Rattle.rv_hardware.specs.Hardware.{Hardware}
use Rattle.rv_hardware.specs.Seen.{stores_after}
use Rattle.rv_stores.specs.declared.store.{Store.Store, StoreState.StoreState}
use Rattle.rv_stores.specs.declared.store.StorePhase.TheVariants.{Committed}
use Rattle.rv_stores.specs.declared.store.StoreState.TheVariants.{Filled}
use Rattle.rv_causes.specs.declared.before.{Facts.Facts, Holder.Holder}
use Rattle.rv_causes.specs.declared.before.Holder.TheVariants.{Drain, Load, Lines}
use Rattle.rv_causes.specs.declared.cause.Cause.{Cause}
use Rattle.rv_causes.specs.declared.cause.Cause.TheVariants as cause

-- the store has retired, and its access to the cache did not begin
abbrev pub is_waiting_state : StoreState → Bool
is_waiting_state (Filled access Committed) = true
is_waiting_state _ = false

-- there is such a store
abbrev pub is_waiting : Option Store → Bool
is_waiting None = false
is_waiting (Some store) = is_waiting_state store.state

-- one is among the stores of the queue, of which the oldest alone drains
abbrev pub waits_in : List Store → Bool
waits_in stores = is_waiting (slice_get stores 0) || is_waiting (slice_get stores 1)

-- what the stores of a queue and the port show, by the cycles when the port is free and when the drain ends
abbrev pub facts_by : List Store → ℕ → Option ℕ → Facts
facts_by stores free end = record {
  stores = length stores;
  is_store_waiting = waits_in stores;
  port_free = free;
  drain_end = end;
}

-- the stores of the hardware's queue
abbrev pub stores_of : Hardware → List Store
stores_of h = stores_after h h.rob.entries

-- what the hardware shows of its stores and its port
abbrev pub facts_of : Hardware → Facts
facts_of h = facts_by (stores_of h) h.port_free (drain_end h)

-- what an event waited for that came when the port was free again
abbrev pub port_cause : Holder → Cause
port_cause Drain = cause.PortStore
port_cause Load = cause.PortLoad
port_cause Lines = cause.PortLines

-- two are of one sort
abbrev pub is_same_holder : Holder → Holder → Bool
is_same_holder Drain Drain = true
is_same_holder Load Load = true
is_same_holder Lines Lines = true
is_same_holder _ _ = false
