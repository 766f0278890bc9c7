use Rattle.std.proofs.Common.{length}
use Rattle.rv_sentences.proofs.interrupts.+first_interruption.Given as goal

abbrev pub decreases-first_interruption : goal.decreases-first_interruption
decreases-first_interruption l = length l.steps.now
