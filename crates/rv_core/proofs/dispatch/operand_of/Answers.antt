use Rattle.rv_core.proofs.Words.{arith}
use Rattle.rv_core.proofs.Ties.Registers.{operand_at, status-is, youngest-below}
use Rattle.rv_core.proofs.dispatch.operand_of.Goals as goal

pub returns-in_default-lookup-clause-operand : goal.returns-in_default-lookup-clause-operand
returns-in_default-lookup-clause-operand c = grind (arith, status-is)

pub operand_by-requires : goal.operand_by-requires
operand_by-requires c = grind (arith, youngest-below)

pub returns-in-Some-get-clause-operand : goal.returns-in-Some-get-clause-operand
returns-in-Some-get-clause-operand c = grind (arith, status-is, operand_at)

pub returns-in-None-clause-operand : goal.returns-in-None-clause-operand
returns-in-None-clause-operand c = grind (arith, status-is, operand_at)
