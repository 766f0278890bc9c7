use Rattle.std.proofs.Common.{◌≡◌, ◌≤◌, length}
use Rattle.rv_asm.specs.Read.{tokens_in}
use Rattle.rv_refusal.specs.Culprit.{later_operands}
use Rattle.rv_refusal.proofs.operand_tokens.after_operand.Given as goal

-- no comma so far
abbrev pub invariant-loop-rest : goal.invariant-loop-rest
invariant-loop-rest l = record {
  others : later_operands (tokens_in l.rest) ≡ later_operands (tokens_in l.fn.tokens);
  shorter : length l.rest ≤ length l.fn.tokens;
}

abbrev pub decreases-loop-rest : goal.decreases-loop-rest
decreases-loop-rest l = length l.rest
