use Rattle.std.proofs.Common.{◌∙◌, ap}
use Rattle.std.specs.Prelude.{decimal}
use Rattle.rv_drawing.specs.SvgPicture.{class_of_row, row_begin}
use Rattle.rv_text.proofs.Saying.{says_same}
use Rattle.rv_drawing.proofs.svg.write_row_begin.Goals as goal

pub returns : goal.returns
unfolding row_begin
returns g c =
    let class = c.class_of_row-class.ensures ∙ ap (λ stopped. class_of_row stopped c.args.row.now.ending)
    c.is_stopped.ensures in
    let y = c.digits-y.ensures ∙ ap decimal c.row_y.ensures in
    let pc = c.as_slice.ensures ∙ c.hexadecimal-pc.ensures in
    says_same (λ i. row_begin (class i) (y i) (pc i)) c.put_all.ensures
