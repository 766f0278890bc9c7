use Rattle.std.proofs.Common.{◌∙◌, filter, fold, Option, None, ℕ, sym, ap}
use Rattle.std.specs.Option.{option_or}
use Rattle.rv_stores.specs.declared.store.Store.{Store}
use Rattle.rv_stores.specs.Store.{byte_at, is_committed}
use Rattle.rv_stores.proofs.Forwarded.{fold-filter_append, fold-youngest_byte}
use Rattle.rv_stores.proofs.queue.StoreQueue.committed_byte.Goals as goal

pub returns : goal.returns
returns c =
    let laid : Option ℕ → Store → Option ℕ = λ found s. option_or (byte_at c.args.address s) found in
    let front = c.as_slices.result.0.now in
    let back = c.as_slices.result.1.now in
    rw (← c.self.view_is) (
    c.committed_bytes.ensures
    ∙ ap (λ found. fold laid found (filter is_committed back)) c.committed_bytes-found.ensures
    ∙ sym (fold-filter_append laid is_committed None front back)
    ∙ ap (λ ss. fold laid None (filter is_committed ss)) c.as_slices.ensures
    ∙ fold-youngest_byte c.args.address (filter is_committed c.self.inside.ring.items)
    )
