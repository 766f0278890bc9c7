use Rattle.std.proofs.Common.{take}
use Rattle.rv_text.specs.Said.{Says}
use Rattle.std.specs.List.{flat_map}
use Rattle.rv_drawing.specs.TextPicture.{shown_line}
use Rattle.rv_drawing.proofs.text.write_rows.Given as goal

-- what comes before is written
abbrev pub invariant-loop-row : goal.invariant-loop-row
invariant-loop-row g l =
    Says g.W.Write.contents l.initial.out l.out
    (flat_map (shown_line l.listing l.window l.marks) (take l.row-index l.rows))
