use Rattle.std.proofs.Common.{take}
use Rattle.std.specs.List.{flat_map}
use Rattle.rv_text.specs.Said.{Says}
use Rattle.rv_report.specs.Rows.{step_line}
use Rattle.rv_report.proofs.rows.write_steps.Given as goal

-- the lines so far are written
abbrev pub invariant-loop-step : goal.invariant-loop-step
invariant-loop-step g l = Says g.W.Write.contents l.initial.out l.out (flat_map step_line (take l.step-index l.steps))
