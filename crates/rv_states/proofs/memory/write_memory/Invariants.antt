use Rattle.rv_states.specs.Memory.{memory_line}
use Rattle.rv_states.specs.Place.{word_address}
use Rattle.rv_text.proofs.Writing.{texts_below}
use Rattle.rv_text.specs.Said.{Says}
use Rattle.rv_states.proofs.memory.write_memory.Given as goal

-- the lines so far are said
abbrev pub invariant-loop-number : goal.invariant-loop-number
invariant-loop-number g l =
    Says g.W.Write.contents l.initial.out l.out
    (texts_below (λ number. memory_line l.hardware (word_address l.values.ram_base number)) l.number)
