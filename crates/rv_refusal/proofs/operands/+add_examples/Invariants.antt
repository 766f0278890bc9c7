use Rattle.std.proofs.Common.{length}
use Rattle.rv_refusal.proofs.operands.+add_examples.Given as goal

abbrev pub decreases-add_examples : goal.decreases-add_examples
decreases-add_examples l = length l.places.now
