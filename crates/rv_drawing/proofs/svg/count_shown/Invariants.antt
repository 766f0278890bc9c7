use Rattle.std.proofs.Common.{◌≡◌, ◌≤◌, count_by, take}
use Rattle.rv_drawing.specs.Cell.{has_cell}
use Rattle.rv_drawing.proofs.svg.count_shown.Given as goal

abbrev pub invariant-loop-row : goal.invariant-loop-row
invariant-loop-row l = (l.shown ≡ count_by (has_cell l.window) (take l.row-index l.rows)) × (l.shown ≤ l.row-index)
