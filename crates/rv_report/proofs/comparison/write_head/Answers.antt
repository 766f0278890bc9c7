use Rattle.rv_report.specs.Comparison.{table_head}
use Rattle.rv_text.proofs.Saying.{says_both}
use Rattle.rv_report.proofs.comparison.write_head.Goals as goal

pub returns : goal.returns
unfolding table_head
returns g c =
    says_both c.put.ensures
    (says_both c.write_stall_heads.ensures (says_both c.put-2.ensures c.put-3.ensures))
