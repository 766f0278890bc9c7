use Rattle.std.proofs.Common.{sym, arith}
use Rattle.rv_stores.proofs.Drained.{with_oldest_draining-set, with_oldest_draining-same, IsInOrder-draining, ComeFirst-draining}
use Rattle.rv_stores.proofs.queue.StoreQueue.drain_oldest.Goals as goal

pub returns-in_default : goal.returns-in_default
returns-in_default c = grind (arith, with_oldest_draining-same)

pub invariant_of-self-2 : goal.invariant_of-self-2
invariant_of-self-2 c =
    let drain = with_oldest_draining-set c.self.inside.ring.items c.in-Some.store.now (sym c.in-Some.ensures.value) in
    rw (c.draining-store.ensures, ← drain) (
      IsInOrder-draining c.self.inside.ring.items c.self.invariant.0,
      ComeFirst-draining c.self.inside.ring.items c.self.invariant.1,
    )

pub returns : goal.returns
returns c = grind (arith, with_oldest_draining-set)
