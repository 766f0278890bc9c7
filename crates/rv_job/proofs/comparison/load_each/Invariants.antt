use Rattle.std.proofs.Common.{take}
use Rattle.rv_job.specs.Comparison.{AreLoaded}
use Rattle.rv_job.proofs.comparison.load_each.Given as goal

-- the program is loaded on the machines so far
abbrev pub invariant-loop-place : goal.invariant-loop-place
invariant-loop-place l = AreLoaded l.program (take l.place l.descriptions) l.jobs.items
