use Rattle.std.proofs.Common.{◌≡◌, ◌∙◌, drop, length, subst, List, [], ◌∷◌, nat_lt, fold, Option, None, ℕ, sym, ap}
use Rattle.std.proofs.Math.Seq.{drop-append_seam}
use Rattle.rv_isa.specs.Numbered.{IsInOrder}
use Rattle.rv_isa.proofs.Numbered.{IsInOrder-drop}
use Rattle.rv_stores.specs.declared.store.Store.{Store}
use Rattle.rv_stores.specs.Store.{laid_over}
use Rattle.rv_stores.specs.Queue.{older_than}
use Rattle.rv_stores.proofs.Forwarded.{fold-filter_append, fold-laid_over}
use Rattle.rv_stores.proofs.queue.StoreQueue.overlay.Goals as goal

pub older_bytes-requires : goal.older_bytes-requires
older_bytes-requires c =
    let front = c.as_slices.result.0.now in
    let rest : drop (length front) c.self.inside.ring.items ≡ c.as_slices.result.1.now =
    ap (drop (length front)) (sym c.as_slices.ensures) ∙ drop-append_seam front c.as_slices.result.1.now in
    subst (IsInOrder (λ s. s.seq)) rest
    (IsInOrder-drop (λ s. s.seq) (length front) c.self.inside.ring.items c.self.invariant.0)

pub returns : goal.returns
returns c =
    let laid : List (Option ℕ) → Store → List (Option ℕ) = λ found s. laid_over c.args.address c.args.count s found in
    let none : List (Option ℕ) = None ∷ None ∷ None ∷ None ∷ [] in
    let front = c.as_slices.result.0.now in
    let back = c.as_slices.result.1.now in
    rw (← c.self.view_is) (
    c.older_bytes.ensures
    ∙ ap (λ found. fold laid found (older_than c.args.seq back)) c.older_bytes-found.ensures
    ∙ sym (fold-filter_append laid (λ s. nat_lt s.seq c.args.seq) none front back)
    ∙ ap (λ ss. fold laid none (older_than c.args.seq ss)) c.as_slices.ensures
    ∙ fold-laid_over c.args.address c.args.count (older_than c.args.seq c.self.inside.ring.items)
    )
