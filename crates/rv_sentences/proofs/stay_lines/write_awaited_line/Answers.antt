use Rattle.rv_text.proofs.Saying.{says_both, says_same}
use Rattle.std.proofs.Common.{ap}
use Rattle.rv_sentences.specs.OutcomeText.{loads_aside}
use Rattle.rv_sentences.specs.StayLines.{awaited_line}
use Rattle.rv_sentences.proofs.stay_lines.write_awaited_line.Goals as goal

pub returns : goal.returns
unfolding awaited_line
returns g c =
    says_both c.put.ensures (says_both c.put_decimal.ensures
    (says_both c.put-2.ensures (says_both c.put_decimal-2.ensures (says_both c.put-3.ensures
    (says_both (says_same (ap loads_aside c.at.ensures) c.write_loads_aside.ensures)
    (says_both c.put-4.ensures c.write_place.ensures))))))
