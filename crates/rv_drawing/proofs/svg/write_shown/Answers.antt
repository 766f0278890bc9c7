use Rattle.std.proofs.Common.{ℕ, List, ap}
use Rattle.rv_drawing.specs.SvgPicture.{svg_of, svg_rows}
use Rattle.rv_drawing.specs.declared.mark.Mark.{Mark}
use Rattle.rv_text.proofs.Saying.{says_both, says_same}
use Rattle.rv_drawing.proofs.svg.write_shown.Goals as goal

pub returns : goal.returns
unfolding svg_of
returns g c =
    let rows = c.args.rows.now in
    let with_marks : List Mark →
    List ℕ = λ marks. svg_rows c.args.listing.now c.args.window rows c.args.stalls.now marks 0 rows in
    let shown = says_same (ap with_marks c.marks_in.ensures) c.write_rows.ensures in
    says_both c.write_begin.ensures
    (says_both c.write_style.ensures
    (says_both (says_same c.mark_style.ensures c.put.ensures)
    (says_both c.write_legend.ensures (says_both c.write_columns.ensures
    (says_both shown (says_both c.write_interrupts.ensures (says_both c.write_over.ensures c.write_end.ensures)))))))
