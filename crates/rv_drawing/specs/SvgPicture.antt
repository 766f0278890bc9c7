-- A picture as an SVG: a legend on top, cycle numbers, a row for each instruction with a box for each cell, and a line for each
-- interrupt.
use Rattle.std.specs.Prelude.{ℕ, ◌+◌, ◌-◌, if◌then◌else◌, nat_le, Bool, true, false}
use Rattle.std.specs.Prelude.{List, [], ◌∷◌, ◌++◌, codes, decimal, count_by, Option}
use Rattle.std.specs.List.{flat_map}
use Rattle.rv_hardware.specs.declared.report.Stall.{Stall}
use Rattle.rv_passage.specs.declared.passage.{Ending.Ending, Passage.Passage}
use Rattle.rv_passage.specs.declared.passage.Ending.TheVariants.{InFlight, Retired, Trapped, Squashed}
use Rattle.rv_source.specs.Listing.{Listed}
use Rattle.rv_drawing.specs.Cell.{has_cell}
use Rattle.rv_drawing.specs.Columns.{columns}
use Rattle.rv_drawing.specs.Label.{markup_byte, statement_of, written_by}
use Rattle.rv_drawing.specs.Marked.{is_marked, marks_in}
use Rattle.rv_drawing.specs.Outcome.{outcome_text}
use Rattle.rv_drawing.specs.Places.{column_x, row_y}
use Rattle.rv_drawing.specs.Over.{over_note}
use Rattle.rv_drawing.specs.SvgBoxes.{box_at}
use Rattle.rv_drawing.specs.SvgFrame.{svg_begin, svg_end}
use Rattle.rv_drawing.specs.SvgLegend.{svg_legend}
use Rattle.rv_drawing.specs.SvgMarks.{interrupt_in, numbers_again, tenth_at}
use Rattle.rv_drawing.specs.SvgStyle.{mark_style, svg_style}
use Rattle.rv_drawing.specs.Stopped.{is_stopped}
use Rattle.rv_drawing.specs.Title.{row_end}
use Rattle.rv_drawing.specs.declared.{mark.Mark.Mark, window.Window.Window}
use Rattle.rv_text.specs.Line.{word_text}

-- the class of a row says how its instruction ended
unfoldable pub row_class : Ending → List ℕ
row_class InFlight = codes "open"
row_class (Retired order cycle written next) = codes "done"
row_class (Trapped cycle cause) = codes "trap"
row_class (Squashed cycle) = codes "out"

-- the class of a row, where its stale word may have ended the run
unfoldable pub class_of_row : Bool → Ending → List ℕ
class_of_row true ending = codes "stale"
class_of_row false ending = row_class ending

-- a row with its class, so far from the top, and its address
unfoldable pub row_begin : List ℕ → List ℕ → List ℕ → List ℕ
row_begin class y pc =
    codes "<g class='" ++ (class ++ (codes "' transform='translate(0 " ++ (y ++
    (codes ")'><text x='8' y='13'>" ++ (pc ++ codes "</text><text x='84' y='13'>")))))

-- an address in front of a column
unfoldable pub near_text : List ℕ → List ℕ → List ℕ
near_text x pc = codes "<text class='a' dx='-4' y='13' x='" ++ (x ++ (codes "'>" ++ (pc ++ codes "</text>\n")))

-- where the first cell is fifty columns or more from the left, the address again in front of it
unfoldable pub near_address : Window → Passage → List ℕ
near_address window passage =
    if nat_le 50 (passage.fetched - window.first)
    then near_text (decimal (column_x (passage.fetched - window.first))) (word_text passage.pc) else []

-- an instruction among others: its address, its statement, what it wrote, its cells, and its tip
unfoldable pub svg_row : Listed → Window → List Passage → List (Option Stall) → List Mark → ℕ → Passage → List ℕ
svg_row listing window passages reasons marks place passage =
    row_begin (class_of_row (is_stopped window passage) passage.ending) (decimal (row_y place))
    (word_text passage.pc) ++
    (flat_map markup_byte (statement_of listing passage) ++
    (codes "</text><text x='328' y='13'>" ++ (outcome_text (is_stopped window passage) (written_by passage.ending) ++
    (codes "</text>\n" ++ (numbers_again window place ++
    (columns window (box_at window passages reasons (is_marked marks passage.number) passage) ++
    (near_address window passage ++ row_end (is_stopped window passage) passage)))))))

-- one that has a cell in the window takes a row
unfoldable pub placed_row : Listed → Window → List Passage → List (Option Stall) → List Mark → ℕ → Passage → List ℕ
placed_row listing window passages reasons marks place passage =
    if has_cell window passage then svg_row listing window passages reasons marks place passage else []

-- how many rows an instruction takes
abbrev pub rows_of : Window → Passage → ℕ
rows_of window passage = if has_cell window passage then 1 else 0

-- each row stands below those before
unfoldable pub svg_rows : Listed → Window → List Passage → List (Option Stall) → List Mark → ℕ → List Passage → List ℕ
svg_rows listing window passages reasons marks place [] = []
svg_rows listing window passages reasons marks place (passage ∷ rest) =
    placed_row listing window passages reasons marks place passage
    ++ svg_rows listing window passages reasons marks (place + rows_of window passage) rest

-- the picture of some instructions, which take so many rows, and interrupts in a window, with what the oldest fetched
-- word waited for in each cycle, which may have marks
unfoldable pub svg_of : ℕ → List Passage → List ℕ → List (Option Stall) → Option (List Mark) → Listed → Window → List ℕ
svg_of rows passages interrupts reasons marks listing window =
    svg_begin window.cycles rows ++ (svg_style ++ (mark_style marks ++ (svg_legend marks ++
    (columns window (tenth_at window rows) ++ (svg_rows listing window passages reasons (marks_in marks) 0 passages ++
    (flat_map (interrupt_in window rows) interrupts ++
    (over_note (codes "<text x='8' y='34'>") (codes "</text>\n") window ++ svg_end)))))))

-- the picture of some instructions and interrupts in a window, with that
unfoldable pub svg_picture : List Passage → List ℕ → List (Option Stall) → Option (List Mark) → Listed → Window → List ℕ
svg_picture passages interrupts reasons marks listing window =
    svg_of (count_by (has_cell window) passages) passages interrupts reasons marks listing window
