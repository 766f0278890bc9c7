use Rattle.rv_text.specs.Said.{Says}
use Rattle.rv_report.proofs.MemoryLines.{line_in}
use Rattle.rv_text.proofs.Writing.{texts_below}
use Rattle.rv_report.proofs.reference_report.write_seen_memory.Given as goal

-- the words so far are written
abbrev pub invariant-loop-number : goal.invariant-loop-number
invariant-loop-number g l =
    Says g.W.Write.contents l.initial.out l.out
    (texts_below (line_in l.reference.layout l.reference.state.ram l.address) l.number)
