-- The operands whose bits are cleared are woken.
use Rattle.std.proofs.Common.{◌<◌, ◌^◌}
use Rattle.rv_stations.proofs.WakingLemmas.{Waking}
use Rattle.rv_stations.proofs.column.OperandColumn.wake_groups.Given as goal

abbrev pub invariant-loop-left : goal.invariant-loop-left
invariant-loop-left l = (l.left < 2 ^ 64) × Waking l.fn.seq l.fn.value l.left l.fn.self l.self

abbrev pub decreases-loop-left : goal.decreases-loop-left
decreases-loop-left l = l.left
