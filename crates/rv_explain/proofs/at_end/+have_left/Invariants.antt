use Rattle.std.proofs.Common.{length}
use Rattle.rv_explain.proofs.at_end.+have_left.Given as goal

abbrev pub decreases-have_left : goal.decreases-have_left
decreases-have_left l = length l.rows.now
