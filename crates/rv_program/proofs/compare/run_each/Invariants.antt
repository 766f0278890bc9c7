use Rattle.std.proofs.Common.{take}
use Rattle.rv_program.specs.Comparison.{AreRuns}
use Rattle.rv_program.proofs.compare.run_each.Given as goal

-- the jobs so far are run
abbrev pub invariant-loop-job : goal.invariant-loop-job
invariant-loop-job l = AreRuns l.options (take l.job-index l.jobs) l.runs.items
