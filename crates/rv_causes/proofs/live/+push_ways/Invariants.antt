use Rattle.std.proofs.Common.{length}
use Rattle.rv_causes.proofs.live.+push_ways.Given as goal

abbrev pub decreases-push_ways : goal.decreases-push_ways
decreases-push_ways l = length l.ways.now
