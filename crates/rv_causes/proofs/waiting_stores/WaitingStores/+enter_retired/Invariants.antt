use Rattle.std.proofs.Common.{length}
use Rattle.rv_causes.proofs.waiting_stores.WaitingStores.+enter_retired.Given as goal

abbrev pub decreases-enter_retired : goal.decreases-enter_retired
decreases-enter_retired l = length l.steps.now
