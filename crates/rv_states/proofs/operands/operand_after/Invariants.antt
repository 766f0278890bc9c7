use Rattle.std.proofs.Common.{◌≡◌}
use Rattle.rv_states.specs.Operands.{status_at}
use Rattle.rv_states.proofs.operands.operand_after.Given as goal

-- what the instructions so far give
abbrev pub invariant-loop-place : goal.invariant-loop-place
invariant-loop-place l = l.operand ≡ status_at l.registers l.buffer l.place l.register
