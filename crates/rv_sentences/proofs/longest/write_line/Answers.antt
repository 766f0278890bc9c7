use Rattle.std.proofs.Common.{ap}
use Rattle.rv_text.proofs.Saying.{says_both, says_same}
use Rattle.rv_sentences.specs.Longest.{branches_aside, longest_line}
use Rattle.rv_sentences.specs.OutcomeText.{loads_aside, stores_aside}
use Rattle.rv_sentences.proofs.longest.write_line.Goals as goal

pub returns : goal.returns
unfolding longest_line
returns g c =
    says_both c.put.ensures (says_both c.put_decimal.ensures
    (says_both c.put-2.ensures (says_both c.put_decimal-2.ensures (says_both c.put-3.ensures
    (says_both (says_same (ap loads_aside c.at.ensures) c.write_loads_aside.ensures)
    (says_both (says_same (ap stores_aside c.at-2.ensures) c.write_stores_aside.ensures)
    (says_both (says_same (λ i. branches_aside (c.count_in_line-retired.ensures i) (c.count_in_line-wrong.ensures i))
    c.write_branches_aside.ensures) (says_both c.put-4.ensures c.write_place.ensures))))))))
