use Rattle.std.proofs.Common.{take}
use Rattle.std.specs.List.{flat_map}
use Rattle.rv_text.specs.ReadField.{field_line}
use Rattle.rv_text.specs.Said.{Says}
use Rattle.rv_text.proofs.sink.Sink.put_fields.Given as goal

-- the lines so far are said
abbrev pub invariant-loop-field : goal.invariant-loop-field
invariant-loop-field g l =
    Says g.W.Write.contents l.initial.self l.self (flat_map field_line (take l.field-index l.fields))
