use Rattle.std.proofs.Common.{length}
use Rattle.rv_cache.proofs.write_back.+write_back_sets.Given as goal

abbrev pub decreases-write_back_sets : goal.decreases-write_back_sets
decreases-write_back_sets g l = length l.sets.now
