use Rattle.std.proofs.Common.{length}
use Rattle.rv_causes.proofs.issuing.+hold_among.Given as goal

abbrev pub decreases-hold_among : goal.decreases-hold_among
decreases-hold_among l = length l.holds.now
