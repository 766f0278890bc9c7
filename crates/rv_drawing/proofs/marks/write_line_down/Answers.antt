use Rattle.std.proofs.Common.{◌∙◌, ap}
use Rattle.std.specs.Prelude.{decimal}
use Rattle.rv_drawing.specs.SvgMarks.{line_down}
use Rattle.rv_text.proofs.Saying.{says_same}
use Rattle.rv_drawing.proofs.marks.write_line_down.Goals as goal

pub returns : goal.returns
unfolding line_down
returns g c =
    let x = c.digits-x.ensures ∙ ap decimal c.column_x.ensures in
    let cycle = c.digits-cycle.ensures ∙ ap decimal c.from.ensures in
    let bottom = c.digits-bottom.ensures ∙ ap decimal c.row_y.ensures in
    says_same (λ i. line_down c.args.begin.now c.args.top.now (x i) (cycle i) (bottom i)) c.put_all.ensures
