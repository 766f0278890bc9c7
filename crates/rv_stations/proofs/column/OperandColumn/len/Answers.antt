-- There are as many operands as tags.
use Rattle.std.proofs.Common.{arith}
use Rattle.rv_stations.proofs.ColumnLemmas.{length-column}
use Rattle.rv_stations.proofs.column.OperandColumn.len.Goals as goal

pub returns-clause-len : goal.returns-clause-len
returns-clause-len c = rw (← c.self.view_is)
    (omega (arith, length-column c.self.inside c.self.invariant, c.len.ensures))
