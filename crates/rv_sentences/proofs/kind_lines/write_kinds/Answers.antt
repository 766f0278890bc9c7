use Rattle.std.proofs.Common.{ap}
use Rattle.rv_sentences.specs.Exception.{kinds_text, others_text}
use Rattle.rv_text.proofs.Saying.{says_both, says_same}
use Rattle.rv_sentences.proofs.kind_lines.write_kinds.Goals as goal

pub returns : goal.returns
unfolding kinds_text
returns g c =
    says_both c.put.ensures (says_both c.write_kind_lines.ensures
    (says_same (ap others_text c.others.ensures) c.write_others.ensures))
