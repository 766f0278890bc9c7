use Rattle.std.proofs.Common.{◌≡◌, [], drop}
use Rattle.rv_causes.specs.WaitingStores.{with_queue}
use Rattle.rv_causes.proofs.waiting_stores.WaitingStores.of.Given as goal

-- those at the places to come are still to be added
abbrev pub invariant-loop-place : goal.invariant-loop-place
invariant-loop-place l = with_queue (drop l.place l.stores.stores) l.waiting ≡ with_queue l.stores.stores []
