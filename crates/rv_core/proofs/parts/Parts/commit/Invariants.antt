use Rattle.rv_core.proofs.Words.{◌-◌}
use Rattle.rv_core.proofs.Retired.Loop.{AreCommitted}
use Rattle.rv_core.proofs.Retired.Taught.{AreTeaching}
use Rattle.rv_core.proofs.parts.Parts.commit.Given as goal

abbrev pub invariant-loop : goal.invariant-loop
invariant-loop g l =
    (committed : AreCommitted l.fn.self l.self l.fn.steps l.steps l.counter (l.end - l.counter))
    × AreTeaching l.fn.self l.self committed.steps
    ((goal.Predictor-dyn g l.fn.predictor.now).known l.fn.predictor.now.1)
    ((goal.Predictor-dyn g l.predictor.now).known l.predictor.now.1)
