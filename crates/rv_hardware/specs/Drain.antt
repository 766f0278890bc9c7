-- The drain phase: retired stores go into the cache, one access at a time.
use Rattle.std.specs.Prelude.{◌+◌, nat_le, true, if◌then◌else◌, Option, Some, None}
use Rattle.rv_isa.specs.declared.broadcast.StoreAccess.{StoreAccess}
use Rattle.rv_cache.specs.Cache.{access_cost, accessed_sets, memory_after, seen_after}
use Rattle.rv_stores.specs.Queue.{oldest_to_drain, with_oldest_draining, without_drained}
use Rattle.rv_hardware.specs.Hardware.{Hardware}

-- the cache takes a store's bytes, and the port is busy for the access
abbrev pub with_drained : StoreAccess → Hardware → Hardware
with_drained access h = record h {
  cache = record h.cache {
    bytes = seen_after h.cache access.address access.bytes;
    sets = accessed_sets h.cache access.address true;
    backing = record h.cache.backing { bytes = memory_after h.cache access.address h.cache.backing.bytes };
  };
  port_free = h.cycle + access_cost h.cache access.address;
  committed = with_oldest_draining h.committed;
}

-- the oldest store begins its access, where it has not begun it yet
abbrev pub start_drain : Option StoreAccess → Hardware → Hardware
start_drain None h = h
start_drain (Some access) h = with_drained access h

-- a store whose access is over leaves the queue
abbrev pub end_drain : Hardware → Hardware
end_drain h = record h { committed = without_drained h.committed }

-- nothing happens while the port is busy
abbrev pub drain : Hardware → Hardware
drain h =
    if nat_le h.port_free h.cycle
    then start_drain (oldest_to_drain (end_drain h).committed) (end_drain h)
    else h
