use Rattle.std.proofs.Common.{length}
use Rattle.rv_causes.proofs.ended.+push_in_flight.Given as goal

abbrev pub decreases-push_in_flight : goal.decreases-push_in_flight
decreases-push_in_flight l = length l.rows.now
