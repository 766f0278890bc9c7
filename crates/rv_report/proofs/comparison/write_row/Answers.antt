use Rattle.rv_report.specs.Comparison.{table_row}
use Rattle.rv_text.proofs.Saying.{says_both}
use Rattle.rv_report.proofs.comparison.write_row.Goals as goal

pub returns : goal.returns
unfolding table_row
returns g c =
    says_both c.write_counts.ensures (says_both c.write_stalls.ensures (says_both c.write_losses.ensures
    (says_both c.write_name_and_stop.ensures (says_both c.write_events.ensures c.write_last.ensures))))
