-- The boxes of an instruction in an SVG, one for each cell.
use Rattle.std.specs.Prelude.{ℕ, ◌+◌, Bool, true, false, List, [], ◌++◌, codes, decimal, Option, Some, None}
use Rattle.std.specs.List.{slice_index_or}
use Rattle.rv_hardware.specs.declared.report.Stall.{Stall}
use Rattle.rv_passage.specs.declared.passage.Passage.{Passage}
use Rattle.rv_drawing.specs.Cell.{cell_of, class_of, letter_of}
use Rattle.rv_drawing.specs.Places.{column_x}
use Rattle.rv_drawing.specs.Wait.{tip_of}
use Rattle.rv_drawing.specs.declared.{cell.Cell.Cell, window.Window.Window}

-- the begin of a box, up to its tip
unfoldable pub box_begin : List ℕ → List ℕ → List ℕ
box_begin class x = codes "<g class='p " ++ (class ++ (codes "' transform='translate(" ++ (x ++ codes " 0)'><title>")))

-- between the cycle in the tip of a box and its letter: a marked one says so, and has two rings
unfoldable pub box_middle : Bool → List ℕ
box_middle false = codes "</title><rect width='14' height='18'/><text x='7' y='13'>"
box_middle true =
    codes ", on the critical path</title><rect width='14' height='18'/><path class='m' d='M1 1H13V17H1Z'/><path class='m' d='M2.5 2.5H11.5V15.5H2.5Z'/><text x='7' y='13'>"

-- the end of a box, from the cycle in its tip on
unfoldable pub box_end : List ℕ → List ℕ → List ℕ → List ℕ
box_end cycle middle letter = codes " in cycle " ++ (cycle ++ (middle ++ (letter ++ codes "</text></g>\n")))

-- a box with a letter, and a tip with the cycle
unfoldable pub cell_box : List ℕ → List ℕ → List ℕ → List ℕ → List ℕ → List ℕ → List ℕ
cell_box class x tip cycle middle letter = box_begin class x ++ (tip ++ box_end cycle middle letter)

-- the box of a cell in a column, which may be marked, and nothing where there is none
unfoldable pub box_of : Option Cell → Window → List Passage → Option Stall → Bool → Passage → ℕ → ℕ → List ℕ
box_of None window passages reason is_marked passage column cycle = []
box_of (Some cell) window passages reason is_marked passage column cycle =
    cell_box (class_of cell) (decimal (column_x column))
    (tip_of window passages reason passage cycle cell) (decimal cycle)
    (box_middle is_marked) (letter_of cell)

-- what the oldest fetched word waits for in a column
abbrev pub reason_in : List (Option Stall) → ℕ → Option Stall
reason_in reasons column = slice_index_or reasons column None

-- the box of an instruction among others in a column of a window, where its cells in some columns are marked
unfoldable pub box_at : Window → List Passage → List (Option Stall) → (ℕ → Bool) → Passage → ℕ → List ℕ
box_at window passages reasons is_marked passage column =
    box_of (cell_of passage (window.first + column)) window passages (reason_in reasons column)
    (is_marked column) passage column
    (window.first + column)
