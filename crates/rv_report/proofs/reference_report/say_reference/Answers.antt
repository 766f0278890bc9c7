use Rattle.rv_report.specs.ReferenceReport.{reference_report}
use Rattle.rv_report.specs.State.{state_lines}
use Rattle.rv_text.proofs.Saying.{says_both, says_same}
use Rattle.rv_report.proofs.reference_report.say_reference.Goals as goal

pub returns : goal.returns
unfolding reference_report
returns g c =
    let seen = c.observe.ensures in
    let state = says_same (λ i. state_lines (seen.pc i) (seen.registers i) (seen.csrs i) (seen.lines i))
    c.write_state.ensures in
    says_both c.write_stop.ensures (says_both c.write_counts.ensures (says_both state c.write_seen_memory.ensures))
