use Rattle.rv_states.specs.Cycle.{json_in_flight}
use Rattle.rv_states.proofs.Given.{AreGiven}
use Rattle.rv_states.proofs.in_flight.write_all_in_flight.Given as goal

-- the values so far are said and counted
abbrev pub invariant-loop-row : goal.invariant-loop-row
invariant-loop-row g l = AreGiven g.W.Write.contents json_in_flight l.rows l.row-index l.written l.initial.out l.out
