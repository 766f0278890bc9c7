use Rattle.std.proofs.Common.{length}
use Rattle.rv_report.proofs.speculation.+take_steps.Given as goal

abbrev pub decreases-take_steps : goal.decreases-take_steps
decreases-take_steps l = length l.steps.now
