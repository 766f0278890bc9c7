use Rattle.std.proofs.Common.{length}
use Rattle.rv_log.proofs.room.+oldest_fetched.Given as goal

abbrev pub decreases-oldest_fetched : goal.decreases-oldest_fetched
decreases-oldest_fetched l = length l.rows.now
