use Rattle.std.proofs.Common.{arith, sym}
use Rattle.rv_stores.specs.Store.{answered}
use Rattle.rv_isa.proofs.Numbered.{IsInOrder-map}
use Rattle.rv_stores.proofs.Answered.{ComeFirst-answered, map-answered, map-answered_none, seq-answered}
use Rattle.rv_stores.proofs.queue.StoreQueue.answer.Goals as goal

pub returns-in_default : goal.returns-in_default
returns-in_default c = grind (arith, map-answered_none)

pub invariant_of-self-2 : goal.invariant_of-self-2
invariant_of-self-2 c =
    let count = rw (← c.self.view_is) at c.older_count-place.ensures in
    let answer = map-answered c.args.seq c.args.news c.self.inside.ring.items c.older_count-place.result
    c.in-Some.store.now count c.self.invariant.0 (sym c.in-Some.ensures.value) in
    rw (c.answered.ensures, ← answer) (
      IsInOrder-map (λ s. s.seq) (λ s. s.seq) (answered c.args.seq c.args.news)
          (seq-answered c.args.seq c.args.news) c.self.inside.ring.items c.self.invariant.0,
      ComeFirst-answered c.args.seq c.args.news c.requires c.self.inside.ring.items c.self.invariant.1,
    )

pub returns : goal.returns
returns c = grind (arith, map-answered)
