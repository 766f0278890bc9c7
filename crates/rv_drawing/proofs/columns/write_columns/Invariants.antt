use Rattle.rv_text.specs.Said.{Says}
use Rattle.rv_drawing.specs.ColumnText.{column_text}
use Rattle.rv_text.proofs.Writing.{texts_below}
use Rattle.rv_drawing.proofs.columns.write_columns.Given as goal

-- the columns so far are written
abbrev pub invariant-loop-column : goal.invariant-loop-column
invariant-loop-column g l =
    Says g.W.Write.contents l.initial.out l.out (texts_below (column_text l.shown l.window) l.column)
