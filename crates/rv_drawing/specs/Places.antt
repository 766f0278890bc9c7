-- Where the parts of an SVG stand: a column is 14 wide and a row 18 high; the first column begins 456 from the left, the first
-- row 44 below the legend.
use Rattle.std.specs.Prelude.{ℕ, ◌+◌, ◌*◌, ◌/◌}

-- where a column begins, from the left
abbrev pub column_x : ℕ → ℕ
column_x column = 456 + 14 * column

-- where a row begins, below the legend; the cycle numbers stand again in front of every fortieth
abbrev pub row_y : ℕ → ℕ
row_y place = 44 + 18 * (place + place / 40)

-- room for a number at the right of the columns
abbrev pub width_of : ℕ → ℕ
width_of columns = column_x columns + 152

-- room for the legend above the rows, and some below
abbrev pub height_of : ℕ → ℕ
height_of rows = row_y rows + 94
