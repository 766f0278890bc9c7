use Rattle.std.proofs.Common.{arith}
use Rattle.rv_program.proofs.Tried.{tried_more}
use Rattle.rv_program.proofs.sensitivity.try_each.Goals as goal

pub loop-neighbour-preserved : goal.loop-neighbour-preserved
loop-neighbour-preserved c = grind (arith, tried_more)
