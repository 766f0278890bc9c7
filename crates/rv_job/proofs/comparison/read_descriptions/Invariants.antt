use Rattle.std.proofs.Common.{length}
use Rattle.rv_job.specs.Comparison.{IsAfter}
use Rattle.rv_job.proofs.comparison.read_descriptions.Given as goal

-- the descriptions so far are in front of the rest
abbrev pub invariant-loop-halves : goal.invariant-loop-halves
invariant-loop-halves l = IsAfter l.text l.descriptions.items l.rest

abbrev pub decreases-loop-halves : goal.decreases-loop-halves
decreases-loop-halves l = length l.rest
