use Rattle.std.proofs.Common.{ap}
use Rattle.rv_drawing.specs.TextPicture.{statement_field}
use Rattle.rv_text.proofs.Saying.{says_both, says_same}
use Rattle.rv_drawing.proofs.text.write_statement.Goals as goal

pub returns : goal.returns
unfolding statement_field
returns g c =
    says_same (ap statement_field c.statement-text.ensures) (says_both c.put_plain.ensures c.write_blanks.ensures)
