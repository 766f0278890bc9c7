-- What the hardware is that a core shows.
use Rattle.std.specs.Prelude.{◌≡◌, ℕ, ◌-◌, false, filter, slice_index, Some, None}
use Rattle.std.specs.Option.{unwrap_or}
use Rattle.rv_cache.specs.Cache.{IsCached}
use Rattle.rv_memory.specs.Memory.{byte_seen, is_in_ram}
use Rattle.rv_stores.specs.Queue.{is_oldest_draining, youngest_byte}
use Rattle.rv_stores.specs.Store.{is_committed}
use Rattle.rv_hardware.specs.Hardware.{Hardware}
use Rattle.rv_hardware.specs.Run.{Reachable}
use Rattle.rv_hardware.specs.Seen.{layout_of, seen}
use Rattle.rv_watch.specs.Queue.{queue_of}
use Rattle.rv_watch.specs.declared.shown_hardware.ShownHardware.TheInside.{Inside}

-- the hardware that has the parts that are shown
abbrev pub hardware_shown : Inside → Hardware
hardware_shown shown = record {
  values = shown.values.now;
  pc = shown.pc;
  registers = shown.registers.now;
  csrs = shown.csrs.now;
  stale = shown.stale.now.words;
  cache = shown.cache.now;
  committed = filter is_committed shown.stores.now.stores;
  port_free = shown.port_free;
  units = shown.units.now;
  rob = shown.rob.now;
  front = shown.front.now;
  cycle = shown.cycle;
  lines = shown.lines;
}

-- in RAM, which the cache lies over, programs see the byte of the youngest retired store, or else the cache's
pub record ShowsBytes (h : Hardware) : Type 0 where
  pub inside : (address byte : ℕ) → IsCached h.cache address →
      byte ≡ unwrap_or (youngest_byte address h.committed) (slice_index h.cache.bytes (address - h.cache.base)) →
      Some byte ≡ byte_seen (layout_of h.values) (seen h).ram address
  pub outside : (address : ℕ) → (IsCached h.cache address → ⊥) →
      None ≡ byte_seen (layout_of h.values) (seen h).ram address
  pub apart : (address : ℕ) → IsCached h.cache address → is_in_ram (layout_of h.values) address 1 ≡ false → ⊥

-- Such hardware is one that a reset and cycles lead to. Its queue holds the retired stores and those in flight, and
-- stale words lie in RAM.
pub record ShowsHardware (shown : Inside) : Type 0 where
  pub reached : Reachable (hardware_shown shown)
  pub queued : shown.stores.now ≡ queue_of (hardware_shown shown)
  pub drains : is_oldest_draining shown.stores.now.stores ≡ is_oldest_draining (hardware_shown shown).committed
  pub bytes : ShowsBytes (hardware_shown shown)
  pub stale_base : shown.stale.now.base ≡ shown.values.now.ram_base
  pub stale_size : shown.stale.now.size ≡ shown.values.now.ram_size
