use Rattle.std.proofs.Common.{arith}
use Rattle.std.proofs.lemmas.Grind.{common_steps}
use Rattle.rv_asm.proofs.pieces.length_before_comma.Goals as goal

pub returns-then-is_comma-clause-length : goal.returns-then-is_comma-clause-length
returns-then-is_comma-clause-length c = grind (arith, common_steps)

pub loop-count-preserved : goal.loop-count-preserved
loop-count-preserved c = grind (arith, common_steps)
