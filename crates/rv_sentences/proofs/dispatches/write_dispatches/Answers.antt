use Rattle.std.proofs.Common.{ap, decimal}
use Rattle.rv_sentences.specs.Dispatch.{dispatches_text}
use Rattle.rv_text.proofs.Saying.{says_both, says_same}
use Rattle.rv_sentences.proofs.dispatches.write_dispatches.Goals as goal

pub returns : goal.returns
unfolding dispatches_text
returns g c =
    says_both c.put.ensures (says_both c.put_decimal.ensures (says_both c.put-2.ensures
    (says_both (says_same (ap decimal c.saturating_sub.ensures) c.put_decimal-2.ensures) c.put-3.ensures)))
