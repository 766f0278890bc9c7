use Rattle.rv_isa.proofs.Numbered.{IsInOrder-drop}
use Rattle.rv_stores.specs.Store.{is_committed}
use Rattle.rv_stores.proofs.Kept.{ComeFirst-rest}
use Rattle.rv_stores.proofs.queue.StoreQueue.end_drain.Goals as goal

pub invariant_of-self : goal.invariant_of-self
invariant_of-self c =
    rw c.pop_front.ensures.items (
      IsInOrder-drop (λ s. s.seq) 1 c.self.inside.ring.items c.self.invariant.0,
      ComeFirst-rest is_committed c.self.inside.ring.items c.self.invariant.1,
    )
