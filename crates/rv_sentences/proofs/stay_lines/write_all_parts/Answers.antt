use Rattle.rv_text.proofs.Saying.{says_both}
use Rattle.rv_sentences.specs.StayLines.{parts_text}
use Rattle.rv_sentences.proofs.stay_lines.write_all_parts.Goals as goal

pub returns : goal.returns
unfolding parts_text
returns g c = says_both c.put.ensures
    (says_both c.put_decimal.ensures (says_both c.put-2.ensures c.write_shares.ensures))
