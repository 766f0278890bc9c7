use Rattle.std.proofs.Common.{◌≡◌, ◌++◌, length}
use Rattle.rv_asm.specs.Token.{unescaped}
use Rattle.rv_asm.proofs.token.push_text.Given as goal

-- the bytes so far and those of the rest are all of them
abbrev pub invariant-loop-byte : goal.invariant-loop-byte
invariant-loop-byte l = l.out.items ++ unescaped l.rest ≡ l.initial.out.items ++ unescaped l.raw

abbrev pub decreases-loop-byte : goal.decreases-loop-byte
decreases-loop-byte l = length l.rest
