use Rattle.std.proofs.Common.{length}
use Rattle.rv_sentences.proofs.kinds.+is_known.Given as goal

abbrev pub decreases-is_known : goal.decreases-is_known
decreases-is_known l = length l.kinds.now
