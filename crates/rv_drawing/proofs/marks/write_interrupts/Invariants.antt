use Rattle.std.proofs.Common.{take}
use Rattle.rv_text.specs.Said.{Says}
use Rattle.std.specs.List.{flat_map}
use Rattle.rv_drawing.specs.SvgMarks.{interrupt_in}
use Rattle.rv_drawing.proofs.marks.write_interrupts.Given as goal

-- the interrupts so far are written
abbrev pub invariant-loop-cycle : goal.invariant-loop-cycle
invariant-loop-cycle g l =
    Says g.W.Write.contents l.initial.out l.out
    (flat_map (interrupt_in l.window l.rows) (take l.cycle-index l.interrupts))
