use Rattle.std.proofs.Common.{length}
use Rattle.rv_causes.proofs.scene.+ends_refill.Given as goal

abbrev pub decreases-ends_refill : goal.decreases-ends_refill
decreases-ends_refill l = length l.rows.now
