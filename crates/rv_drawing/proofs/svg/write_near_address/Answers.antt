use Rattle.std.proofs.Common.{◌≡◌, ◌∙◌, ◌-◌, true, if◌then◌else◌, [], ap, sym, arith, nat_le, le-leb}
use Rattle.std.specs.Prelude.{decimal}
use Rattle.rv_drawing.specs.Places.{column_x}
use Rattle.rv_drawing.specs.SvgPicture.{near_address, near_text}
use Rattle.rv_text.specs.Line.{word_text}
use Rattle.rv_text.proofs.Saying.{says_same}
use Rattle.rv_drawing.proofs.svg.write_near_address.Goals as goal

pub returns-then-column-ge50 : goal.returns-then-column-ge50
unfolding near_address near_text
returns-then-column-ge50 g c =
    let row = c.args.row.now in
    let column = row.fetched - c.args.window.first in
    let x = c.digits-x.ensures ∙ ap decimal (c.column_x.ensures ∙ ap column_x c.saturating_sub-column.ensures) in
    let pc = c.as_slice.ensures ∙ c.hexadecimal-pc.ensures in
    let far : nat_le 50 column ≡ true = le-leb 50 column (omega arith) in
    let text = near_text (decimal (column_x column)) (word_text row.pc) in
    says_same ((λ i. near_text (x i) (pc i)) ∙ (λ i. if sym far i then text else [])) c.put_all.ensures
