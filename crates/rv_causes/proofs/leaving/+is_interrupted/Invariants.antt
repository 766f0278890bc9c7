use Rattle.std.proofs.Common.{length}
use Rattle.rv_causes.proofs.leaving.+is_interrupted.Given as goal

abbrev pub decreases-is_interrupted : goal.decreases-is_interrupted
decreases-is_interrupted l = length l.steps.now
