use Rattle.std.proofs.Common.{◌≡◌, ◌+◌, ◌≤◌, length}
use Rattle.rv_refusal.specs.Caret.{distance}
use Rattle.rv_refusal.proofs.caret.token_place.Given as goal

-- what is passed, and what is left to the token
abbrev pub invariant-loop-rest : goal.invariant-loop-rest
invariant-loop-rest l = record {
  part : length l.rest ≤ length l.line;
  place : distance l.line 0 l.before + length l.rest ≡ length l.line + distance l.rest 0 l.left;
}

abbrev pub decreases-loop-rest : goal.decreases-loop-rest
decreases-loop-rest l = length l.rest
