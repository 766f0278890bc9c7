use Rattle.std.proofs.Common.{length}
use Rattle.rv_asm.proofs.filling.+fill.Given as goal

abbrev pub decreases-fill : goal.decreases-fill
decreases-fill l = length l.places.now
