use Rattle.std.proofs.Common.{arith}
use Rattle.rv_describe.specs.Field.{field_fault}
use Rattle.rv_describe.proofs.AtFault.{no_field}
use Rattle.rv_describe.proofs.field.field_with.Goals as goal

pub returns-clause-read : goal.returns-clause-read
unfolding field_fault
returns-clause-read c =
    grind (arith, no_field)
