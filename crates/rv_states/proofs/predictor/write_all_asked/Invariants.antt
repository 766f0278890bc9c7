use Rattle.rv_states.specs.Predictor.{asked_in}
use Rattle.rv_states.proofs.Given.{AreGiven}
use Rattle.rv_states.proofs.predictor.write_all_asked.Given as goal

-- the values so far are said and counted
abbrev pub invariant-loop-place : goal.invariant-loop-place
invariant-loop-place g l = AreGiven g.W.Write.contents (asked_in l.predictor l.cycle) l.front.entries l.place
    l.written l.initial.out l.out
