use Rattle.rv_core.proofs.Words.{◌≡◌, ◌-◌, dispatch, dispatch_turn, repeated, dispatching}
use Rattle.rv_core.proofs.parts.Parts.dispatch.Given as goal

-- the turns to come lead to what all of them lead to
abbrev pub invariant-loop-dispatched : goal.invariant-loop-dispatched
invariant-loop-dispatched l =
    repeated dispatch_turn (l.width - l.dispatched) (dispatching l.self l.dispatched) ≡ dispatch l.fn.self
