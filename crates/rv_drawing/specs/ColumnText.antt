-- What stands in a column of a window.
use Rattle.std.specs.Prelude.{ℕ, List}
use Rattle.rv_drawing.specs.Marked.{is_marked}
use Rattle.rv_drawing.specs.SvgBoxes.{box_at}
use Rattle.rv_drawing.specs.SvgMarks.{number_at, tenth_at}
use Rattle.rv_drawing.specs.TextPicture.{cell_at, interrupt_at, scale_at}
use Rattle.rv_drawing.specs.declared.{columns.Columns.Columns, window.Window.Window}
use Rattle.rv_drawing.specs.declared.columns.Columns.TheVariants.{Scale, Letters, Marks, Tenths, Numbers, Boxes}

-- what stands in a column of a line of this sort
abbrev pub column_text : Columns → Window → ℕ → List ℕ
column_text Scale window = scale_at window
column_text (Letters passage marks) window = cell_at window (is_marked marks.now passage.now.number) passage.now
column_text (Marks interrupts) window = interrupt_at window interrupts.now
column_text (Tenths rows) window = tenth_at window rows
column_text Numbers window = number_at window
column_text (Boxes passage passages reasons marks) window =
    box_at window passages.now reasons.now (is_marked marks.now passage.now.number) passage.now
