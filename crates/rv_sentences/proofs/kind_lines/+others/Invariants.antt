use Rattle.std.proofs.Common.{length}
use Rattle.rv_sentences.proofs.kind_lines.+others.Given as goal

abbrev pub decreases-others : goal.decreases-others
decreases-others l = length l.kinds.now
