use Rattle.std.proofs.Common.{take}
use Rattle.rv_text.specs.Said.{Says}
use Rattle.std.specs.List.{flat_map}
use Rattle.rv_drawing.specs.Label.{markup_byte}
use Rattle.rv_drawing.proofs.label.write_markup.Given as goal

-- what comes before is written
abbrev pub invariant-loop-byte : goal.invariant-loop-byte
invariant-loop-byte g l =
    Says g.W.Write.contents l.initial.out l.out (flat_map markup_byte (take l.byte-index l.statement))
