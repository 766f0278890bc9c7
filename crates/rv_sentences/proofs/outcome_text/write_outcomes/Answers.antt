use Rattle.rv_sentences.specs.OutcomeText.{outcomes_text}
use Rattle.rv_text.proofs.Saying.{says_both}
use Rattle.rv_sentences.proofs.outcome_text.write_outcomes.Goals as goal

pub returns : goal.returns
unfolding outcomes_text
returns g c =
    says_both c.put.ensures (says_both c.put-2.ensures
    (says_both c.put_decimal.ensures (says_both c.write_forwarded.ensures
    (says_both c.put-3.ensures
    (says_both c.put_decimal-2.ensures (says_both c.put-4.ensures c.put_decimal-3.ensures))))))
