use Rattle.std.proofs.Common.{length}
use Rattle.rv_explain.proofs.last_before.+last_since.Given as goal

abbrev pub decreases-last_since : goal.decreases-last_since
decreases-last_since l = length l.steps.now
