use Rattle.std.proofs.Common.{◌≡◌, ◌≤◌, ◌==◌, count_by, take}
use Rattle.rv_isa.specs.Instruction.{is_serialising}
use Rattle.rv_rob.specs.declared.entry.Entry.{Entry}
use Rattle.rv_hardware.specs.Dispatch.{is_stationed}
use Rattle.rv_counts.proofs.in_flight.count_found_among.Given as goal

abbrev pub invariant-loop-entry : goal.invariant-loop-entry
invariant-loop-entry l =
    ((l.dispatched ≡ count_by (λ (e : Entry). e.dispatched == l.cycle) (take l.entry-index l.entries))
    × (l.dispatched ≤ l.entry-index))
    × ((l.serialising ≡ count_by (λ (e : Entry). is_serialising e.instruction) (take l.entry-index l.entries))
    × (l.serialising ≤ l.entry-index))
    × ((l.stationed ≡ count_by (is_stationed l.kind) (take l.entry-index l.entries)) × (l.stationed ≤ l.entry-index))
