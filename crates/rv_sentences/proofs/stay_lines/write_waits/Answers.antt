use Rattle.rv_text.proofs.Saying.{says_both}
use Rattle.rv_sentences.specs.StayLines.{waits_text}
use Rattle.rv_sentences.proofs.stay_lines.write_waits.Goals as goal

pub returns : goal.returns
unfolding waits_text
returns g c =
    says_both c.put.ensures (says_both c.put_decimal.ensures
    (says_both c.put-2.ensures (says_both c.write_wait.ensures c.write_second_wait.ensures)))
