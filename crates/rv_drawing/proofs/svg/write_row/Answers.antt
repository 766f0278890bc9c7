use Rattle.rv_drawing.specs.Columns.{columns}
use Rattle.rv_drawing.specs.SvgBoxes.{box_at}
use Rattle.rv_drawing.specs.SvgPicture.{svg_row}
use Rattle.rv_text.proofs.Saying.{says_both, says_same}
use Rattle.rv_drawing.proofs.svg.write_row.Goals as goal

pub returns : goal.returns
unfolding svg_row
returns g c =
    let window = c.args.window in
    let row = c.args.row.now in
    let boxes = says_same (λ i. columns window
    (box_at window c.args.rows.now c.args.stalls.now (c.marks_of-marks.ensures i) row)) c.write_columns.ensures in
    says_both c.write_row_begin.ensures
    (says_both c.write_statement.ensures
    (says_both c.put.ensures (says_both c.write_outcome.ensures (says_both c.put-2.ensures
    (says_both c.write_numbers_again.ensures
    (says_both boxes (says_both c.write_near_address.ensures c.write_row_end.ensures)))))))
