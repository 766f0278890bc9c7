use Rattle.std.proofs.Common.{◌≡◌, ◌+◌}
use Rattle.rv_job.specs.Comparison.{separator_count}
use Rattle.rv_job.proofs.comparison.has_too_many.Given as goal

-- so many separators were found
abbrev pub invariant-loop : goal.invariant-loop
invariant-loop l = separator_count l.text ≡ l.counter + separator_count l.rest
