use Rattle.std.proofs.Common.{arith}
use Rattle.rv_refusal.proofs.Faulty.{shown_next}
use Rattle.rv_refusal.proofs.further.faulty_from.Goals as goal

pub loop-rest-preserved : goal.loop-rest-preserved
loop-rest-preserved c = grind (arith, shown_next)
