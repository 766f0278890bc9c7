-- For the number of no producer none is woken.
use Rattle.std.proofs.Common.{sym}
use Rattle.rv_stations.proofs.ColumnLemmas.{operands-unwoken}
use Rattle.rv_stations.proofs.column.OperandColumn.wake_waiting.Goals as goal

pub returns-else-seq-ne-NO_PRODUCER : goal.returns-else-seq-ne-NO_PRODUCER
returns-else-seq-ne-NO_PRODUCER c =
    rw (← c.self.view_is) (sym (rw c.if-seq-ne-NO_PRODUCER.false (operands-unwoken c.args.value _ _)))
