use Rattle.std.proofs.Common.{length}
use Rattle.rv_sentences.proofs.dispatches.Dispatches.+add.Given as goal

abbrev pub decreases-add : goal.decreases-add
decreases-add l = length l.steps.now
