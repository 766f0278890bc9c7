use Rattle.std.proofs.Common.{◌∙◌, ap}
use Rattle.std.specs.Prelude.{decimal}
use Rattle.rv_drawing.specs.SvgBoxes.{box_begin}
use Rattle.rv_text.proofs.Saying.{says_same}
use Rattle.rv_drawing.proofs.boxes.write_box_begin.Goals as goal

pub returns : goal.returns
unfolding box_begin
returns g c =
    let class = c.class-class.ensures in
    let x = c.digits-x.ensures ∙ ap decimal c.column_x.ensures in
    says_same (λ i. box_begin (class i) (x i)) c.put_all.ensures
