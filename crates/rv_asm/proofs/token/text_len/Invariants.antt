use Rattle.std.proofs.Common.{◌≡◌, ◌+◌, ◌≤◌, length}
use Rattle.rv_asm.specs.Token.{unescaped}
use Rattle.rv_asm.proofs.token.text_len.Given as goal

-- the bytes so far and those of the rest are all of them
abbrev pub invariant-loop-others : goal.invariant-loop-others
invariant-loop-others l =
    record {
      counted : l.bytes + length (unescaped l.rest) ≡ length (unescaped l.raw);
      in_range : l.bytes + length l.rest ≤ length l.raw;
    }

abbrev pub decreases-loop-others : goal.decreases-loop-others
decreases-loop-others l = length l.rest
