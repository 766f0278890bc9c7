use Rattle.std.proofs.Common.{length}
use Rattle.rv_counts.proofs.place_uses.+flush_of.Given as goal

abbrev pub decreases-flush_of : goal.decreases-flush_of
decreases-flush_of l = length l.steps.now
