use Rattle.std.proofs.Common.{arith}
use Rattle.rv_causes.proofs.Queued.{queued_on}
use Rattle.rv_causes.proofs.waiting_stores.WaitingStores.of.Goals as goal

pub loop-place-preserved : goal.loop-place-preserved
loop-place-preserved c = grind (arith, queued_on)
