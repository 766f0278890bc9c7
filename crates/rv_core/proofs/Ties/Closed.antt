-- Parts that are tied to a hardware stand for it.
use Rattle.std.proofs.Common.{arith}
use Rattle.rv_core.proofs.Words.{◌≡◌, Hardware, IsSound, hardware_of, IsSoundHardware, AreTied, Inside}
use Rattle.rv_core.proofs.Ties.Queue.{retired_of_queue}

module _ (p : Inside) (h : Hardware) (same : record (hardware_of p) { committed = h.committed } ≡ h)
    (tied : AreTied h p.rename p.stations p.bus p.stores) (sound : IsSoundHardware h) where
  -- the retired stores are those of the queue, all else is there
  pub closed-is : hardware_of p ≡ h
  closed-is = grind (arith, retired_of_queue)

  -- and they are sound, if their stale words are of the same RAM
  pub closed-sound : p.stale.base ≡ p.values.ram_base → p.stale.size ≡ p.values.ram_size → IsSound p
  closed-sound base size = grind (arith, closed-is)
