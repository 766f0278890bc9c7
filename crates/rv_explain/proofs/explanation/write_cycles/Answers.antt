use Rattle.std.proofs.Common.{append-nil}
use Rattle.rv_explain.specs.Explanation.{cycle_text}
use Rattle.rv_text.proofs.Saying.{says_both, says_same}
use Rattle.rv_explain.proofs.explanation.write_cycles.Goals as goal

pub returns : goal.returns
unfolding cycle_text
returns g c = says_both c.write_counts.ensures
    (says_both (says_same (append-nil _) c.put_fields.ensures) c.write_stalls.ensures)
