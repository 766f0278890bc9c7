use Rattle.std.proofs.Common.{◌≡◌, ◌++◌, ◌∷◌, [], refl, ap, ◌∙◌}
use Rattle.rv_stores.specs.Store.{entered, is_committed}
use Rattle.rv_stores.proofs.Kept.{ComeFirst-push, keep_last-room}
use Rattle.rv_isa.proofs.Numbered.{IsInOrder-push}
use Rattle.rv_stores.proofs.queue.StoreQueue.enter.Goals as goal

pub invariant_of-self : goal.invariant_of-self
invariant_of-self c =
    let may = rw (← c.self.view_is) at c.requires in
    let items = c.self.inside.ring.items in
    let pushed : c.push_back.new.self.items ≡ items ++ entered c.args.seq ∷ [] =
    ap (λ b. b.items) c.push_back.ensures.items ∙ keep_last-room c.self.inside.ring.capacity items
    (entered c.args.seq) may.0 in
    rw pushed (
      IsInOrder-push (λ s. s.seq) items (entered c.args.seq) c.self.invariant.0 may.1,
      ComeFirst-push is_committed items (entered c.args.seq) refl c.self.invariant.1,
    )
