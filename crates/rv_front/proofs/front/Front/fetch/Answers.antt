use Rattle.std.proofs.Common.{◌≡◌, ◌+◌, ◌-◌, suc, false, sym, ap, ◌∙◌, arith}
use Rattle.rv_front.proofs.Fetching.{Fetching-step, Fetching-end, Fetching-all}
use Rattle.rv_front.proofs.front.Front.fetch.Goals as goal

pub returns-in-Some-clause-fetched : goal.returns-in-Some-clause-fetched
returns-in-Some-clause-fetched g c =
    let runs : c.args.self.now.halted ≡ false = sym (ap (λ f. f.halted) c.self.view_is) ∙ c.if-self.false in
    let left : c.self.inside.width - c.loop.counter ≡ suc (c.self.inside.width - (c.loop.counter + 1)) =
    omega (arith, c.loop-test.true) in
    Fetching-end _ c.args.ram.now c.args.cycle c.args.self.now c.loop.self c.fetch_next.new.self
    (c.self.inside.width - c.loop.counter) (c.self.inside.width - (c.loop.counter + 1)) c.in-Some.stop runs left
    c.loop.invariant.fetching c.in-Some.ensures.fetched

pub loop-preserved : goal.loop-preserved
loop-preserved g c =
    let left : c.self.inside.width - c.loop.counter ≡ suc (c.self.inside.width - (c.loop.counter + 1)) =
    omega (arith, c.loop-test.true) in
    record {
      fetching = Fetching-step _ c.args.ram.now c.args.cycle c.args.self.now c.loop.self c.fetch_next.new.self
          (c.self.inside.width - c.loop.counter) (c.self.inside.width - (c.loop.counter + 1)) left
          c.loop.invariant.fetching c.in_default.ensures.fetched;
      width = c.loop.invariant.width;
      chained = c.fetch_next.ensures.chain;
    }

pub returns-clause-fetched : goal.returns-clause-fetched
returns-clause-fetched g c =
    let runs : c.args.self.now.halted ≡ false = sym (ap (λ f. f.halted) c.self.view_is) ∙ c.if-self.false in
    let none : c.self.inside.width - c.loop.counter ≡ 0 = omega (arith, c.loop-test.false) in
    Fetching-all _ c.args.ram.now c.args.cycle c.args.self.now c.loop.self (c.self.inside.width - c.loop.counter) runs
    none c.loop.invariant.fetching
