use Rattle.std.proofs.Common.{length}
use Rattle.rv_sentences.proofs.left.+add_left.Given as goal

abbrev pub decreases-add_left : goal.decreases-add_left
decreases-add_left l = length l.rows.now
