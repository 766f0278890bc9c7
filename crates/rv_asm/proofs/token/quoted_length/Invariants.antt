use Rattle.std.proofs.Common.{◌≡◌, ◌≤◌, length}
use Rattle.rv_asm.specs.Token.{from_quote}
use Rattle.rv_asm.proofs.token.quoted_length.Given as goal

-- the closing quote is still to come
abbrev pub invariant-loop-rest : goal.invariant-loop-rest
invariant-loop-rest l = record {
  closing : from_quote l.rest ≡ from_quote l.bytes;
  in_range : length l.rest ≤ length l.bytes;
}

abbrev pub decreases-loop-rest : goal.decreases-loop-rest
decreases-loop-rest l = length l.rest
