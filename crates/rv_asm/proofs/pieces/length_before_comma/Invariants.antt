use Rattle.std.proofs.Common.{◌≡◌, ◌+◌, drop}
use Rattle.std.specs.List.{position_or_len}
use Rattle.rv_asm.specs.Operand.{is_comma}
use Rattle.rv_asm.specs.Read.{tokens_in}
use Rattle.rv_asm.proofs.pieces.length_before_comma.Given as goal

-- no comma yet
abbrev pub invariant-loop-count : goal.invariant-loop-count
invariant-loop-count l = position_or_len is_comma (tokens_in l.tokens) ≡ l.count
    + position_or_len is_comma (tokens_in (drop l.count l.tokens))
