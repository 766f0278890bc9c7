use Rattle.std.proofs.Common.{◌≡◌, ◌+◌, length}
use Rattle.std.specs.List.{list_all, slice_split}
use Rattle.std.specs.Option.{option_map_or}
use Rattle.rv_asm.specs.Operand.{is_comma}
use Rattle.rv_asm.specs.Read.{is_value, pieces_left, tokens_in}
use Rattle.rv_asm.proofs.statement.are_values.Given as goal

-- each piece so far is one
abbrev pub invariant-loop-rest : goal.invariant-loop-rest
invariant-loop-rest l = list_all is_value (slice_split is_comma (tokens_in l.tokens))
    ≡ list_all is_value (pieces_left l.rest)

abbrev pub decreases-loop-rest : goal.decreases-loop-rest
decreases-loop-rest l = option_map_or (λ rest. length rest.now + 1) l.rest 0
