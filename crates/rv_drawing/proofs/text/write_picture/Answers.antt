use Rattle.std.proofs.Common.{ap}
use Rattle.std.specs.List.{flat_map}
use Rattle.rv_drawing.specs.TextPicture.{legend_line, shown_line, text_picture}
use Rattle.rv_text.proofs.Saying.{says_both, says_same}
use Rattle.rv_drawing.proofs.text.write_picture.Goals as goal

pub returns : goal.returns
unfolding text_picture legend_line
returns g c =
    let rows = says_same (ap (λ marks. flat_map (shown_line c.args.listing.now c.args.window marks) c.args.rows.now)
    c.marks_in.ensures) c.write_rows.ensures in
    says_both c.write_scale.ensures
    (says_both rows (says_both c.write_interrupts.ensures (says_both c.write_over.ensures
    (says_both c.put.ensures (says_same c.mark_legend.ensures c.put-2.ensures)))))
