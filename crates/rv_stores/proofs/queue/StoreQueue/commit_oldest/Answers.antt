use Rattle.std.proofs.Common.{sym, arith}
use Rattle.rv_stores.proofs.Retired.{with_oldest_retired-set, with_oldest_retired-same, IsInOrder-retired, ComeFirst-retired}
use Rattle.rv_stores.proofs.queue.StoreQueue.commit_oldest.Goals as goal

pub returns-in_default : goal.returns-in_default
returns-in_default c = grind (arith, with_oldest_retired-same)

pub invariant_of-self-2 : goal.invariant_of-self-2
invariant_of-self-2 c =
    let count = rw (← c.self.view_is) at c.committed_count-place.ensures in
    let retire = with_oldest_retired-set c.self.inside.ring.items c.committed_count-place.result c.in-Some.store.now
    count (sym c.in-Some.ensures.value) in
    rw (c.retired-store.ensures, ← retire) (
      IsInOrder-retired c.self.inside.ring.items c.self.invariant.0,
      ComeFirst-retired c.self.inside.ring.items c.self.invariant.1,
    )

pub returns : goal.returns
returns c = grind (arith, with_oldest_retired-set)
