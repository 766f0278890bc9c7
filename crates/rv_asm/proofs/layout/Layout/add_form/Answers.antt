use Rattle.std.proofs.Common.{arith}
use Rattle.rv_asm.proofs.Few.{moved_data, moved_refused}
use Rattle.rv_asm.proofs.layout.Layout.add_form.Goals as goal

pub returns-in-Ok-clause-moved : goal.returns-in-Ok-clause-moved
returns-in-Ok-clause-moved c = grind (arith, moved_data)

pub returns-in-Err-clause-moved : goal.returns-in-Err-clause-moved
returns-in-Err-clause-moved c = grind (arith, moved_data)

pub returns-in-Err-few_operands-clause-moved : goal.returns-in-Err-few_operands-clause-moved
returns-in-Err-few_operands-clause-moved c = grind (arith, moved_refused)
