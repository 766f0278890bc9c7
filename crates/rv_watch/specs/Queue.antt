-- The store queue that hardware has.
use Rattle.rv_stores.specs.Queue.{Queue}
use Rattle.rv_hardware.specs.Hardware.{Hardware}
use Rattle.rv_hardware.specs.Seen.{stores_after}

-- the store queue: the retired stores, and after them those in flight
abbrev pub queue_of : Hardware → Queue
queue_of h = record { stores = stores_after h h.rob.entries; capacity = h.values.store_queue }
