use Rattle.rv_core.proofs.Words.{◌≡◌, ◌-◌, broadcast, broadcast_turn, repeated}
use Rattle.rv_core.proofs.parts.Parts.broadcast.Given as goal

-- the turns to come lead to what all of them lead to
abbrev pub invariant-loop : goal.invariant-loop
invariant-loop l = repeated broadcast_turn (l.end - l.counter) l.self ≡ broadcast l.fn.self
