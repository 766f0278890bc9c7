use Rattle.std.proofs.Common.{take}
use Rattle.std.specs.List.{flat_map}
use Rattle.rv_text.specs.ReadField.{cell_text}
use Rattle.rv_text.specs.Said.{Says}
use Rattle.rv_text.proofs.sink.Sink.put_cells.Given as goal

-- the cells so far are said
abbrev pub invariant-loop-value : goal.invariant-loop-value
invariant-loop-value g l =
    Says g.W.Write.contents l.initial.self l.self (flat_map cell_text (take l.value-index l.values))
