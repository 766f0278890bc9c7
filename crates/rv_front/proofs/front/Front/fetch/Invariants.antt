use Rattle.std.proofs.Common.{◌≡◌, ◌-◌}
use Rattle.rv_front.specs.FetchBuffer.{IsLinked}
use Rattle.rv_front.specs.Guide.{answers_of}
use Rattle.rv_front.proofs.Fetching.{Fetching}
use Rattle.rv_front.proofs.front.Front.fetch.Given as goal

abbrev pub invariant-loop : goal.invariant-loop
invariant-loop g l = record {
  fetching : Fetching (answers_of ((goal.Predictor-dyn g l.predictor.now).known l.predictor.now.1)) l.ram l.cycle
      l.fn.self (l.width - l.counter) l.self;
  width : l.width ≡ l.fn.self.width;
  chained : IsLinked l.self.entries l.self.next_pc;
}
