use Rattle.rv_log.specs.Details.{details_text}
use Rattle.rv_text.proofs.Saying.{says_both}
use Rattle.rv_log.proofs.details.write_details.Goals as goal

pub returns : goal.returns
unfolding details_text
returns g c =
    says_both c.write_begin.ensures
    (says_both c.write_ending.ensures
    (says_both c.write_cost.ensures (says_both c.write_prediction.ensures c.write_waited.ensures)))
