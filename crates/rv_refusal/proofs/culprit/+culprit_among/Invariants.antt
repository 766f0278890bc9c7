use Rattle.std.proofs.Common.{length}
use Rattle.rv_refusal.proofs.culprit.+culprit_among.Given as goal

abbrev pub decreases-culprit_among : goal.decreases-culprit_among
decreases-culprit_among l = length l.places.now
