use Rattle.rv_drawing.specs.SvgMarks.{numbers}
use Rattle.rv_text.proofs.Saying.{says_both}
use Rattle.rv_drawing.proofs.marks.write_numbers.Goals as goal

pub returns : goal.returns
unfolding numbers
returns g c = says_both c.put.ensures (says_both c.write_columns.ensures c.put-2.ensures)
