use Rattle.std.proofs.Common.{arith}
use Rattle.rv_passage.proofs.Numbers.{kept-next}
use Rattle.rv_passage.proofs.in_flight.count_kept.Goals as goal

pub loop-place-preserved : goal.loop-place-preserved
loop-place-preserved c = grind (arith, kept-next)
