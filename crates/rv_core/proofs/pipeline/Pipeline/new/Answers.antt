use Rattle.rv_core.proofs.Words.{arith, at_reset}
use Rattle.rv_core.proofs.pipeline.Pipeline.new.Goals as goal

pub invariant_of-result : goal.invariant_of-result
invariant_of-result c = grind (arith, at_reset)
