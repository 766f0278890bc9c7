use Rattle.std.proofs.Common.{◌++◌, codes}
use Rattle.rv_drawing.specs.Columns.{columns}
use Rattle.rv_drawing.specs.TextPicture.{cell_at, row_line}
use Rattle.rv_text.proofs.Saying.{says_both, says_same}
use Rattle.rv_drawing.proofs.text.write_row.Goals as goal

pub returns : goal.returns
unfolding row_line
returns g c =
    let window = c.args.window in
    let row = c.args.row.now in
    let cells = says_same (λ i. columns window (cell_at window (c.marks_of-marks.ensures i) row) ++ codes "\n")
    c.write_line.ensures in
    says_both c.write_pc.ensures (says_both c.write_statement.ensures (says_both c.write_outcome_field.ensures cells))
