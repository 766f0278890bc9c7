use Rattle.std.proofs.Common.{length}
use Rattle.rv_states.proofs.predictor.+teach.Given as goal

abbrev pub decreases-teach : goal.decreases-teach
decreases-teach l = length l.steps.now
