use Rattle.std.proofs.Common.{arith}
use Rattle.rv_program.specs.Comparison.{AreRuns}
use Rattle.rv_program.proofs.Compared.{all_run, run_more}
use Rattle.rv_program.proofs.compare.run_each.Goals as goal

pub loop-job-init : goal.loop-job-init
loop-job-init c = grind (arith, AreRuns.nothing)

pub loop-job-preserved : goal.loop-job-preserved
loop-job-preserved c = grind (arith, run_more)

pub returns-clause-runs : goal.returns-clause-runs
returns-clause-runs c = grind (arith, all_run)
