-- A picture for a terminal: a line of cycle numbers, a line for each instruction, one for the interrupts, and a legend.
use Rattle.std.specs.Prelude.{ℕ, ◌+◌, ◌-◌, ◌%◌, ◌==◌, if◌then◌else◌, nat_lt, Bool, true, false}
use Rattle.std.specs.Prelude.{List, [], ◌++◌, length, codes, decimal, Option, Some, None}
use Rattle.std.specs.List.{flat_map, list_any}
use Rattle.rv_passage.specs.Names.{register_name}
use Rattle.rv_passage.specs.declared.passage.Passage.{Passage}
use Rattle.rv_source.specs.Listing.{Listed}
use Rattle.rv_drawing.specs.Columns.{columns}
use Rattle.rv_drawing.specs.Over.{over_note}
use Rattle.rv_drawing.specs.Cell.{cell_of, has_cell, letter_by}
use Rattle.rv_drawing.specs.Label.{blanks, padded, statement_of, written_by, written_text}
use Rattle.rv_drawing.specs.Marked.{is_marked, marks_in}
use Rattle.rv_drawing.specs.Stopped.{is_stopped}
use Rattle.rv_drawing.specs.declared.{cell.Cell.Cell, mark.Mark.Mark, window.Window.Window}
use Rattle.rv_text.specs.Line.{word_text}
use Rattle.rv_text.specs.Plain.{plain_text}

-- the number of each tenth cycle begins in its column and takes ten; the columns before the first have blanks
unfoldable pub scale_at : Window → ℕ → List ℕ
scale_at window column =
    if (window.first + column) % 10 == 0 then padded 10 (decimal (window.first + column))
    else if nat_lt column ((window.first + column) % 10) then codes " "
    else []

-- the cycle numbers, above the cells
unfoldable pub scale_line : Window → List ℕ
scale_line window =
    codes "                                                           "
    ++ (columns window (scale_at window) ++ codes "\n")

-- a statement in 33 columns
unfoldable pub statement_field : List ℕ → List ℕ
statement_field statement = plain_text statement ++ blanks (33 - length statement)

-- what was written in 17 columns
unfoldable pub room_after : Option (ℕ × ℕ) → List ℕ
room_after None = blanks 16
room_after (Some written) = blanks (6 - (length (decimal written.0) + length (register_name written.0)))

-- what was written, and blanks after it
unfoldable pub written_field : Option (ℕ × ℕ) → List ℕ
written_field written = written_text written ++ room_after written

-- the same of an instruction, where its stale word may have ended the run
unfoldable pub outcome_field : Bool → Option (ℕ × ℕ) → List ℕ
outcome_field true written = codes "stale            "
outcome_field false written = written_field written

-- a cell, which may be marked, is its letter, or a blank where there is none
unfoldable pub cell_text : Bool → Option Cell → List ℕ
cell_text is_marked None = codes " "
cell_text is_marked (Some cell) = letter_by is_marked cell

-- what an instruction shows in a column of a window, where its cells in some columns are marked
unfoldable pub cell_at : Window → (ℕ → Bool) → Passage → ℕ → List ℕ
cell_at window is_marked passage column = cell_text (is_marked column) (cell_of passage (window.first + column))

-- an instruction: its address, its statement, what it wrote, and its cells
unfoldable pub row_line : Listed → Window → List Mark → Passage → List ℕ
row_line listing window marks passage =
    (word_text passage.pc ++ codes " ") ++
    (statement_field (statement_of listing passage) ++
    (outcome_field (is_stopped window passage) (written_by passage.ending) ++
    (columns window (cell_at window (is_marked marks passage.number) passage) ++ codes "\n")))

-- those that have a cell in the window
unfoldable pub shown_line : Listed → Window → List Mark → Passage → List ℕ
shown_line listing window marks passage = if has_cell window passage then row_line listing window marks passage else []

-- an exclamation mark in the column of each interrupt
unfoldable pub interrupt_at : Window → List ℕ → ℕ → List ℕ
interrupt_at window interrupts column =
    if list_any (λ cycle. cycle == window.first + column) interrupts then codes "!" else codes " "

-- the line of the interrupts
unfoldable pub mark_line : Window → List ℕ → List ℕ
mark_line window interrupts =
    codes "interrupts                                                 "
    ++ (columns window (interrupt_at window interrupts) ++ codes "\n")

-- no line where there are none
unfoldable pub interrupt_line : Window → List ℕ → List ℕ
interrupt_line window interrupts = if length interrupts == 0 then [] else mark_line window interrupts

-- what the letters mean
unfoldable pub legend_line : List ℕ
legend_line = codes "F fetch  D dispatch  I issue  = execution  ~ wait for the bus  B broadcast  C retirement  T trap  x squash  . wait  ! interrupt\n"

-- what the marks mean, where a picture has some
unfoldable pub mark_legend : Option (List Mark) → List ℕ
mark_legend None = []
mark_legend (Some marks) = codes "In lower case, or * in place of = ~ x . : on the critical path\n"

-- the picture of some instructions and interrupts in a window, which may have marks
unfoldable pub text_picture : List Passage → List ℕ → Option (List Mark) → Listed → Window → List ℕ
text_picture passages interrupts marks listing window =
    scale_line window
    ++ (flat_map (shown_line listing window (marks_in marks)) passages ++ (interrupt_line window interrupts ++
    (over_note [] (codes "\n") window ++ (legend_line ++ mark_legend marks))))
