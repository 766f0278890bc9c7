use Rattle.std.proofs.Common.{arith}
use Rattle.rv_asm.proofs.Few.{read_fault, read_refused, too_many}
use Rattle.rv_asm.proofs.statement.few_operands.Goals as goal

pub returns-then-piece_count-gt3-clause-refused : goal.returns-then-piece_count-gt3-clause-refused
returns-then-piece_count-gt3-clause-refused c = grind (arith, too_many)

pub returns-clause-fault : goal.returns-clause-fault
returns-clause-fault c = read_fault _ c.read_operands.result _ c.read_operands.ensures

pub returns-clause-refused : goal.returns-clause-refused
returns-clause-refused c = read_refused _ c.read_operands.result _ c.read_operands.ensures
