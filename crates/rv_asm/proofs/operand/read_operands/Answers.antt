use Rattle.std.proofs.Common.{arith}
use Rattle.rv_asm.proofs.Operands.{operands_of-pieces}
use Rattle.rv_asm.proofs.operand.read_operands.Goals as goal

pub returns : goal.returns
returns c = grind (arith, operands_of-pieces)
