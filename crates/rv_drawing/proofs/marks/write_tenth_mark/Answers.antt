use Rattle.std.proofs.Common.{◌∙◌, ap, ◌++◌}
use Rattle.std.specs.Prelude.{decimal, codes}
use Rattle.rv_drawing.specs.SvgMarks.{tenth_mark}
use Rattle.rv_text.proofs.Saying.{says_both, says_same}
use Rattle.rv_drawing.proofs.marks.write_tenth_mark.Goals as goal

pub returns : goal.returns
unfolding tenth_mark
returns g c =
    let cycle = c.digits-cycle.ensures ∙ ap decimal c.from.ensures in
    says_both c.write_line_down.ensures
    (says_same (λ i. codes "<text x='3' y='16'>" ++ (cycle i ++ codes "</text></g>\n")) c.put_all.ensures)
