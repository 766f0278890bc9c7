use Rattle.rv_text.proofs.Saying.{says_both}
use Rattle.rv_sentences.specs.Longest.{counted_branches}
use Rattle.rv_sentences.proofs.longest.write_counted_branches.Goals as goal

pub returns : goal.returns
unfolding counted_branches
returns g c =
    says_both c.put.ensures (says_both c.put_decimal.ensures
    (says_both c.put-2.ensures (says_both c.put_decimal-2.ensures c.put-3.ensures)))
