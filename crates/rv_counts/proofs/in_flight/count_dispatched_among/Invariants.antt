use Rattle.std.proofs.Common.{◌≡◌, ◌≤◌, ◌==◌, count_by, take}
use Rattle.rv_rob.specs.declared.entry.Entry.{Entry}
use Rattle.rv_counts.proofs.in_flight.count_dispatched_among.Given as goal

abbrev pub invariant-loop-entry : goal.invariant-loop-entry
invariant-loop-entry l =
    (l.dispatched ≡ count_by (λ (e : Entry). e.dispatched == l.cycle) (take l.entry-index l.entries))
    × (l.dispatched ≤ l.entry-index)
