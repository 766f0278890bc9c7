-- After the first store that is not older, none is.
use Rattle.std.proofs.Common.{rules, ◌∙◌, fold, ap, sym, subst, arith}
use Rattle.rv_isa.proofs.Numbered.{IsInOrder-tail, below-stops}
use Rattle.rv_isa.specs.Numbered.{IsInOrder}
use Rattle.rv_stores.specs.Queue.{older_than}
use Rattle.rv_stores.specs.Store.{laid_over}
use Rattle.rv_stores.proofs.forwarding.+older_bytes.Goals as goal

pub returns-then-store-seq : goal.returns-then-store-seq
returns-then-store-seq t c =
    let split = c.in-Some.ensures.cases.0 in
    let none = below-stops (λ s. s.seq) c.args.seq c.in-Some.store.now c.in-Some.younger.now
    (subst (IsInOrder (λ s. s.seq)) split c.requires) (omega (arith, c.if-store-seq.true)) in
    sym (ap (λ ss. fold (λ found store. laid_over c.args.address c.args.count store found) c.args.found ss)
    (ap (older_than c.args.seq) split ∙ none))

pub older_bytes-requires : goal.older_bytes-requires
older_bytes-requires t c =
    let split = c.in-Some.ensures.cases.0 in (
      search rules,
      IsInOrder-tail (λ s. s.seq) c.in-Some.store.now c.in-Some.younger.now
          (subst (IsInOrder (λ s. s.seq)) split c.requires),
    )
