use Rattle.rv_report.specs.RunReport.{end_lines}
use Rattle.rv_report.specs.State.{state_lines}
use Rattle.rv_text.proofs.Saying.{says_both, says_same}
use Rattle.rv_report.proofs.run_report.write_end.Goals as goal

pub returns : goal.returns
unfolding end_lines
returns g c =
    let seen = c.observe.ensures in
    let state = says_same (λ i. state_lines (seen.pc i) (seen.registers i) (seen.csrs i) (seen.lines i))
    c.write_state.ensures in
    says_both c.write_stop.ensures (says_both c.write_counts.ensures state)
