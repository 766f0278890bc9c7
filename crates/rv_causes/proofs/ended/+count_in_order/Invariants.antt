use Rattle.std.proofs.Common.{length}
use Rattle.rv_causes.proofs.ended.+count_in_order.Given as goal

abbrev pub decreases-count_in_order : goal.decreases-count_in_order
decreases-count_in_order l = length l.rows.now
