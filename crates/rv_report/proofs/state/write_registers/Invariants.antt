use Rattle.std.proofs.Common.{slice_index}
use Rattle.rv_text.specs.Said.{Says}
use Rattle.rv_report.specs.State.{register_line}
use Rattle.rv_text.proofs.Writing.{texts_below}
use Rattle.rv_report.proofs.state.write_registers.Given as goal

-- the registers so far are written
abbrev pub invariant-loop-number : goal.invariant-loop-number
invariant-loop-number g l =
    Says g.W.Write.contents l.initial.out l.out
    (texts_below (λ number. register_line number (slice_index l.registers number)) l.number)
