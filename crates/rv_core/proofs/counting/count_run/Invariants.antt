use Rattle.rv_core.proofs.Words.{◌≡◌, guided}
use Rattle.rv_core.proofs.CountedRun.{IsCounting}
use Rattle.rv_core.proofs.counting.count_run.Given as goal

-- the cycles so far were counted, and their steps
abbrev pub invariant-loop : goal.invariant-loop
invariant-loop g l =
    IsCounting l.arrivals (guided l.fn.pipeline ((goal.Predictor-dyn g l.fn.predictor.now).known l.fn.predictor.now.1))
    (guided l.pipeline ((goal.Predictor-dyn g l.predictor.now).known l.predictor.now.1)) l.progress l.steps
    × (l.progress.cycles ≡ l.counter)
