use Rattle.std.proofs.Common.{◌≡◌, ◌≤◌, count_by, take}
use Rattle.rv_text.specs.Said.{Says}
use Rattle.rv_drawing.specs.Cell.{has_cell}
use Rattle.rv_drawing.specs.SvgPicture.{svg_rows}
use Rattle.rv_drawing.proofs.svg.write_rows.Given as goal

-- the rows so far are written, and so many of them are shown
abbrev pub invariant-loop-row : goal.invariant-loop-row
invariant-loop-row g l = record {
  written : Says g.W.Write.contents l.initial.out l.out
      (svg_rows l.listing l.window l.rows l.stalls l.marks 0 (take l.row-index l.rows));
  shown : l.place ≡ count_by (has_cell l.window) (take l.row-index l.rows);
  few : l.place ≤ l.row-index;
}
