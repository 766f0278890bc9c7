use Rattle.std.proofs.Common.{◌+◌, ◌==◌, ◌∙◌, if◌then◌else◌, [], ap, sym}
use Rattle.std.specs.Prelude.{decimal}
use Rattle.rv_drawing.specs.Places.{column_x}
use Rattle.rv_drawing.specs.SvgMarks.{number_at, number_mark}
use Rattle.rv_text.proofs.Saying.{says_same}
use Rattle.rv_drawing.proofs.marks.write_number.Goals as goal

pub returns-then-cycle-eq0 : goal.returns-then-cycle-eq0
unfolding number_at number_mark
returns-then-cycle-eq0 g c =
    let x = c.digits-x.ensures ∙ ap decimal c.column_x.ensures in
    let cycle = c.digits-cycle.ensures ∙ ap decimal c.from.ensures in
    let mark = number_mark (decimal (column_x c.args.column)) (decimal (c.args.window.first + c.args.column)) in
    says_same ((λ i. number_mark (x i) (cycle i))
    ∙ (λ i. if sym c.if-cycle-eq0.true i == 0 then mark else [])) c.put_all.ensures
