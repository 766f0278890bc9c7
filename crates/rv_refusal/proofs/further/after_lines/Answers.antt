use Rattle.std.proofs.Common.{arith}
use Rattle.rv_refusal.proofs.Passed.{drop_next, drop_past}
use Rattle.rv_refusal.proofs.further.after_lines.Goals as goal

pub returns-in-None-clause-lines : goal.returns-in-None-clause-lines
returns-in-None-clause-lines c = grind (arith, drop_past)

pub loop-passed-preserved : goal.loop-passed-preserved
loop-passed-preserved c = grind (arith, drop_next)
