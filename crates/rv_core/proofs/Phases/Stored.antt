-- Parts of which the retired stores, the cache and the port alone change are sound, and stand for the hardware so changed.
use Rattle.std.proofs.Common.{arith}
use Rattle.rv_core.proofs.Words.{◌≡◌, ℕ, ◌^◌, ◌≤◌, List, refl, Memory, Contents, Store as QueuedStore, Hardware}
use Rattle.rv_core.proofs.Words.{AreBelow, Queue, IsSound, hardware_of, IsDescribedCache, IsSoundHardware, AreTied}
use Rattle.rv_core.proofs.Words.{queue_of, Inside}
use Rattle.rv_core.proofs.Ties.Closed.{closed-is, closed-sound}
use Rattle.rv_core.proofs.Retired.Stores.{AreRetired}

-- the hardware with these retired stores, this cache and this port
abbrev pub with_cache : Contents Memory → List QueuedStore → ℕ → Hardware → Hardware
with_cache cache committed port h = record h { cache = cache; committed = committed; port_free = port }

-- such hardware is sound, with a described cache and retired stores
pub sound_with_cache : {h : Hardware} {cache : Contents Memory} {committed : List QueuedStore} {port : ℕ} →
    IsSoundHardware h →
    IsDescribedCache h.values cache → AreRetired h.values committed →
    AreBelow (λ (s : QueuedStore). s.seq) h.rob.retired committed →
    port ≤ 2 ^ 43 → IsSoundHardware (with_cache cache committed port h)
sound_with_cache sound described retired older free = grind arith

-- the parts with this cache, this queue and this port
abbrev pub with_parts : Contents Memory → Queue → ℕ → Inside → Inside
with_parts cache stores port parts = record parts { cache = cache; stores = stores; port_free = port }

module _ {parts : Inside} {cache : Contents Memory} {committed : List QueuedStore} {stores : Queue} {port : ℕ}
    (before : IsSound parts)
    (sound : IsSoundHardware (with_cache cache committed port (hardware_of parts)))
    (is : stores ≡ queue_of (with_cache cache committed port (hardware_of parts))) where
  abbrev next : Hardware
  next = with_cache cache committed port (hardware_of parts)

  tied : AreTied next parts.rename parts.stations parts.bus stores
  tied = grind arith

  -- the parts stand for the hardware so changed
  pub view_with_cache : hardware_of (with_parts cache stores port parts)
      ≡ with_cache cache committed port (hardware_of parts)
  view_with_cache = closed-is (with_parts cache stores port parts) next refl tied sound

  -- and are sound
  pub parts_with_cache : IsSound (with_parts cache stores port parts)
  parts_with_cache = closed-sound (with_parts cache stores port parts) next refl tied sound
      before.stale_base before.stale_size
