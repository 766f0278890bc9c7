use Rattle.std.proofs.Common.{arith}
use Rattle.std.proofs.lemmas.List.{drop_more, drop_all}
use Rattle.rv_asm.proofs.Joined.{joined, joined-nil, joined-end}
use Rattle.rv_asm.proofs.Operands.{joined-operand}
use Rattle.rv_asm.specs.Read.{operand_of}
use Rattle.rv_asm.proofs.operand.read_pieces.Goals as goal

pub loop-piece-init : goal.loop-piece-init
loop-piece-init c = rw c.in_ok-operands.ensures.items (joined-nil operand_of _)

pub loop-piece-preserved : goal.loop-piece-preserved
loop-piece-preserved c = grind (arith, drop_more, joined-operand)

pub returns-in_default : goal.returns-in_default
returns-in_default c = grind (arith, drop_more)

pub returns : goal.returns
returns c = grind (arith, drop_all, joined, joined-end)
