use Rattle.std.proofs.Common.{◌≡◌, length}
use Rattle.rv_asm.specs.Token.{tokens_of}
use Rattle.rv_asm.specs.Read.{token_of}
use Rattle.rv_asm.proofs.Joined.{joined}
use Rattle.rv_asm.proofs.token.tokenize.Given as goal

-- the tokens so far and those of the rest are those of the line
abbrev pub invariant-loop-rest : goal.invariant-loop-rest
invariant-loop-rest l = joined token_of l.tokens.items (tokens_of l.rest) ≡ tokens_of l.line

abbrev pub decreases-loop-rest : goal.decreases-loop-rest
decreases-loop-rest l = length l.rest
