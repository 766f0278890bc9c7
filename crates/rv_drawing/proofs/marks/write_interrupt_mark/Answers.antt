use Rattle.rv_drawing.specs.SvgMarks.{interrupt_mark}
use Rattle.rv_text.proofs.Saying.{says_both}
use Rattle.rv_drawing.proofs.marks.write_interrupt_mark.Goals as goal

pub returns : goal.returns
unfolding interrupt_mark
returns g c = says_both c.write_line_down.ensures c.put.ensures
