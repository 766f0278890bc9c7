use Rattle.rv_core.proofs.Words.{arith}
use Rattle.rv_core.proofs.RunCycles.{run_of_none}
use Rattle.rv_core.proofs.cycles.not_run.Goals as goal

pub returns-then-limit-eq0 : goal.returns-then-limit-eq0
returns-then-limit-eq0 c arrivals h guide = grind (arith, run_of_none)

pub returns : goal.returns
returns c arrivals h guide = grind (arith, run_of_none)
