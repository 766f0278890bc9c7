-- Where no operand waits, none is woken.
use Rattle.std.proofs.Common.{sym}
use Rattle.rv_stations.specs.ColumnFields.{operands}
use Rattle.rv_stations.proofs.ColumnLemmas.{operands-idle}
use Rattle.rv_stations.proofs.column.OperandColumn.wake.Goals as goal

pub returns-else-self-ne0 : goal.returns-else-self-ne0
returns-else-self-ne0 c =
    rw (← c.self.view_is)
    (sym (operands-idle c.args.seq c.args.value (operands c.self.inside)
    (rw c.if-self-ne0.false at c.self.invariant.marked)))
