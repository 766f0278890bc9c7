use Rattle.std.proofs.Common.{◌≡◌, length}
use Rattle.rv_refusal.specs.NameOn.{value_on}
use Rattle.rv_refusal.proofs.name_on.value_on.Given as goal

-- no `=` so far
abbrev pub invariant-loop-rest : goal.invariant-loop-rest
invariant-loop-rest l = value_on l.rest ≡ value_on l.fn.line

abbrev pub decreases-loop-rest : goal.decreases-loop-rest
decreases-loop-rest l = length l.rest
