use Rattle.rv_job.specs.Fault.{input_fault_line, input_fault_text}
use Rattle.rv_job.proofs.fault_lines.FaultLines.report_unread.Goals as goal

pub returns-in-Failed-clause-line : goal.returns-in-Failed-clause-line
unfolding input_fault_line input_fault_text
returns-in-Failed-clause-line g c = rw c.in-Failed.is c.report_text.ensures
