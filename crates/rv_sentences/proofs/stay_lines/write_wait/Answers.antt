use Rattle.std.proofs.Common.{ap}
use Rattle.rv_text.proofs.Saying.{says_both, says_same}
use Rattle.rv_sentences.specs.Stack.{share_text}
use Rattle.rv_sentences.specs.StayLines.{wait_text}
use Rattle.rv_sentences.proofs.stay_lines.write_wait.Goals as goal

pub returns : goal.returns
unfolding wait_text
returns g c =
    says_both c.put_decimal.ensures
    (says_both (says_same c.wait_name.ensures c.put.ensures)
    (says_same (ap share_text c.parts_of.ensures) c.write_share_of.ensures))
