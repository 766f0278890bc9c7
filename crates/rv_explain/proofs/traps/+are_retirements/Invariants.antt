use Rattle.std.proofs.Common.{length}
use Rattle.rv_explain.proofs.traps.+are_retirements.Given as goal

abbrev pub decreases-are_retirements : goal.decreases-are_retirements
decreases-are_retirements l = length l.steps.now
