use Rattle.std.proofs.Common.{◌≤◌, length, take}
use Rattle.rv_passage.proofs.YoungestLeft.{AreInFlightAfter}
use Rattle.rv_passage.proofs.left.count_to_youngest_left.Given as goal

abbrev pub invariant-loop-count : goal.invariant-loop-count
invariant-loop-count l = (l.count ≤ length l.rows) × AreInFlightAfter l.rows (take l.count l.rows)

abbrev pub decreases-loop-count : goal.decreases-loop-count
decreases-loop-count l = l.count
