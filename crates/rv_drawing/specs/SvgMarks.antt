-- The marks of cycles in an SVG: a line and a number at each tenth one, and a line at each interrupt.
use Rattle.std.specs.Prelude.{ℕ, ◌+◌, ◌-◌, ◌%◌, ◌==◌, ◌&&◌, not, if◌then◌else◌}
use Rattle.std.specs.Prelude.{nat_le, nat_lt, List, [], ◌++◌, codes, decimal}
use Rattle.rv_drawing.specs.Columns.{columns}
use Rattle.rv_drawing.specs.Places.{column_x, row_y}
use Rattle.rv_drawing.specs.declared.window.Window.{Window}

-- a line in front of a column, down to the last row, with its cycle as a tip
unfoldable pub line_down : List ℕ → List ℕ → List ℕ → List ℕ → List ℕ → List ℕ
line_down begin top x cycle bottom =
    begin ++ (x ++ (codes " 0)'><title>cycle " ++ (cycle ++ (top ++ (bottom ++ codes "'/>")))))

-- the number of a tenth cycle, over such a line
unfoldable pub tenth_mark : List ℕ → List ℕ → List ℕ → List ℕ
tenth_mark x bottom cycle =
    line_down (codes "<g class='n' transform='translate(") (codes "</title><path d='M0 20V") x cycle bottom ++
    (codes "<text x='3' y='16'>" ++ (cycle ++ codes "</text></g>\n"))

-- the mark of a column, over so many rows
unfoldable pub tenth_at : Window → ℕ → ℕ → List ℕ
tenth_at window rows column =
    if (window.first + column) % 10 == 0
    then tenth_mark (decimal (column_x column)) (decimal (row_y rows)) (decimal (window.first + column))
    else []

-- the same number in front of a later row
unfoldable pub number_mark : List ℕ → List ℕ → List ℕ
number_mark x cycle = codes "<text x='" ++ (x ++ (codes "'>" ++ (cycle ++ codes "</text>\n")))

-- that of a column
unfoldable pub number_at : Window → ℕ → List ℕ
number_at window column =
    if (window.first + column) % 10 == 0
    then number_mark (decimal (column_x column)) (decimal (window.first + column)) else []

-- the numbers of a window
unfoldable pub numbers : Window → List ℕ
numbers window =
    codes "<g class='n' transform='translate(3 -4)'>\n" ++ (columns window (number_at window) ++ codes "</g>\n")

-- they stand again above every fortieth row
unfoldable pub numbers_again : Window → ℕ → List ℕ
numbers_again window place = if place % 40 == 0 && not (place == 0) then numbers window else []

-- a line in front of the cycle of an interrupt
unfoldable pub interrupt_mark : List ℕ → List ℕ → List ℕ → List ℕ
interrupt_mark x cycle bottom =
    line_down (codes "<g class='v' transform='translate(")
    (codes ", interrupt</title><path d='M0 38V") x cycle bottom ++
    codes "<text x='7' y='34'>!</text></g>\n"

-- those in the window, across so many rows
unfoldable pub interrupt_in : Window → ℕ → ℕ → List ℕ
interrupt_in window rows cycle =
    if nat_le window.first cycle && nat_lt cycle (window.first + window.cycles)
    then interrupt_mark (decimal (column_x (cycle - window.first))) (decimal cycle) (decimal (row_y rows))
    else []
