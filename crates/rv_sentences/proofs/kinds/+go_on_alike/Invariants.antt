use Rattle.std.proofs.Common.{length}
use Rattle.rv_sentences.proofs.kinds.+go_on_alike.Given as goal

abbrev pub decreases-go_on_alike : goal.decreases-go_on_alike
decreases-go_on_alike l = length l.kinds.now
