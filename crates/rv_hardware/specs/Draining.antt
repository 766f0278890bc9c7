-- What the access of a store to the cache costs, and when it is over, as the views show it.
use Rattle.std.specs.Prelude.{ℕ, ◌-◌, ◌==◌, not, nat_le, Bool, false, if◌then◌else◌, Option, Some, None}
use Rattle.std.specs.Option.{option_map}
use Rattle.rv_isa.specs.declared.broadcast.StoreAccess.{StoreAccess}
use Rattle.rv_cache.specs.Cache.{access_cost}
use Rattle.rv_stores.specs.Queue.{is_oldest_draining, oldest_to_drain}
use Rattle.rv_hardware.specs.Drain.{end_drain}
use Rattle.rv_hardware.specs.Hardware.{Hardware}

-- what the access costs that begins in the phase, if one does
abbrev pub drain_cost : Hardware → Option ℕ
drain_cost h =
    if nat_le h.port_free h.cycle
    then option_map (λ (access : StoreAccess). access_cost h.cache access.address)
    (oldest_to_drain (end_drain h).committed)
    else None

-- the first cycle in which the access of the store that drains is over, if one drains
abbrev pub drain_end : Hardware → Option ℕ
drain_end h = if is_oldest_draining h.committed then Some h.port_free else None

-- an access is over then
abbrev pub ends_at : ℕ → Option ℕ → Bool
ends_at end None = false
ends_at end (Some other) = other == end

-- An access is under way after a cycle that was not before it. `before` and `after` are the ends of those that are under way before and
-- after it, of which no two are the same.
abbrev pub is_new_drain : Option ℕ → Option ℕ → Bool
is_new_drain before None = false
is_new_drain before (Some end) = not (ends_at end before)

-- what the access costs that began in the cycle, if one did
abbrev pub new_drain_cost : ℕ → Option ℕ → Option ℕ → Option ℕ
new_drain_cost cycle before None = None
new_drain_cost cycle before (Some end) = if ends_at end before then None else Some (end - cycle)
