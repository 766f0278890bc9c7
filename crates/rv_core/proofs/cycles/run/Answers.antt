use Rattle.std.proofs.Common.{arith}
use Rattle.rv_core.proofs.TrueRun.{promise_is_kept, stop_is_true}
use Rattle.rv_core.proofs.cycles.run.Goals as goal

pub returns-clause-promised : goal.returns-clause-promised
returns-clause-promised g c = grind (arith, promise_is_kept)

pub returns-clause-stopped : goal.returns-clause-stopped
returns-clause-stopped g c = grind (arith, stop_is_true)
