use Rattle.std.proofs.Common.{arith, ◌≡◌, filter, refl}
use Rattle.circular_buffer.specs.Buffer.{buffer}
use Rattle.rv_stores.specs.Store.{is_committed}
use Rattle.rv_stores.proofs.Prefix.{take-prefix_len_at}
use Rattle.rv_stores.proofs.Kept.{ComeFirst-filter}
use Rattle.rv_isa.proofs.Numbered.{IsInOrder-filter}
use Rattle.rv_stores.proofs.queue.StoreQueue.squash_uncommitted.Goals as goal

kept : (c : goal.After-truncate_back) → c.truncate_back.new.self ≡ buffer (filter is_committed c.self.inside.ring.items)
    c.self.inside.ring.capacity
kept c = grind (arith, take-prefix_len_at is_committed)

pub invariant_of-self : goal.invariant_of-self
invariant_of-self c =
    rw (kept c) (
      IsInOrder-filter (λ s. s.seq) is_committed c.self.inside.ring.items c.self.invariant.0,
      ComeFirst-filter is_committed is_committed c.self.inside.ring.items c.self.invariant.1,
    )

pub returns : goal.returns
returns c = rw (← c.self.view_is, kept c) refl
