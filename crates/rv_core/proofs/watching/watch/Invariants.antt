use Rattle.rv_core.proofs.Words.{◌≡◌, ◌≤◌, true, is_some, guided}
use Rattle.rv_watch.proofs.Shown.{IsWatching}
use Rattle.rv_core.specs.Steps.{room_of}
use Rattle.rv_core.proofs.watching.watch.Given as goal

-- the cycles so far were shown, and the list keeps its room
abbrev pub invariant-loop : goal.invariant-loop
invariant-loop g l =
    IsWatching g.T.Watcher.has_seen l.arrivals
    (guided l.fn.pipeline ((goal.Predictor-dyn g l.fn.predictor.now).known l.fn.predictor.now.1)) l.fn.watcher
    (g.W.Write.contents l.fn.output)
    (guided l.pipeline ((goal.Predictor-dyn g l.predictor.now).known l.predictor.now.1)) l.progress l.watcher
    (g.W.Write.contents l.output)
    × (l.progress.cycles ≡ l.counter) × (is_some l.steps.list ≡ true) × (8 ≤ room_of l.steps)
