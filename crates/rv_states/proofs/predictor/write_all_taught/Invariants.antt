use Rattle.rv_states.specs.Predictor.{place_taught}
use Rattle.rv_states.proofs.Given.{AreGiven}
use Rattle.rv_states.proofs.predictor.write_all_taught.Given as goal

-- the values so far are said and counted
abbrev pub invariant-loop-step : goal.invariant-loop-step
invariant-loop-step g l = AreGiven g.W.Write.contents (place_taught l.tables) l.steps l.step-index
    l.written l.initial.out l.out
