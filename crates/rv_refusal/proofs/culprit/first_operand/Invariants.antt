use Rattle.std.proofs.Common.{◌≡◌, ◌+◌, length}
use Rattle.std.specs.Option.{option_map_or}
use Rattle.rv_refusal.specs.Culprit.{Answers, first_operand, operands_left}
use Rattle.rv_refusal.proofs.culprit.first_operand.Given as goal

-- none so far
abbrev pub invariant-loop-rest : goal.invariant-loop-rest
invariant-loop-rest g l =
    goal.F-IsAlwaysCallable g l.is_sought
    × ((question : _) → Answers (goal.F-post g l.is_sought) question
    → first_operand question (operands_left l.rest) ≡ first_operand question (operands_left l.fn.operands))

abbrev pub decreases-loop-rest : goal.decreases-loop-rest
decreases-loop-rest g l = option_map_or (λ rest. length rest.now + 1) l.rest 0
