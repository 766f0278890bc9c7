use Rattle.std.proofs.Common.{length}
use Rattle.rv_explain.proofs.traps.+first_exception.Given as goal

abbrev pub decreases-first_exception : goal.decreases-first_exception
decreases-first_exception l = length l.steps.now
