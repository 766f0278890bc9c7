use Rattle.std.proofs.Common.{append-nil}
use Rattle.rv_text.specs.Line.{word_line}
use Rattle.rv_report.specs.State.{state_lines}
use Rattle.rv_text.proofs.Saying.{says_both, says_same}
use Rattle.rv_report.proofs.state.write_state.Goals as goal

pub returns : goal.returns
unfolding state_lines word_line
returns g c =
    let pc = says_same (append-nil _) c.put_fields.ensures in
    says_both pc (says_both c.write_registers.ensures c.write_csrs.ensures)
