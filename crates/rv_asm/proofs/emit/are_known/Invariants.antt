use Rattle.std.proofs.Common.{◌≡◌, ◌+◌, is_some, length, map}
use Rattle.std.specs.List.{list_all}
use Rattle.std.specs.Option.{option_map_or}
use Rattle.rv_asm.specs.Meaning.{evaluate}
use Rattle.rv_asm.specs.Read.{data_in, datum, pieces_left}
use Rattle.rv_asm.specs.Statement.{expression_in}
use Rattle.rv_asm.specs.Symbols.{value_in}
use Rattle.rv_asm.proofs.emit.are_known.Given as goal

-- each operand so far has a value
abbrev pub invariant-loop-rest : goal.invariant-loop-rest
invariant-loop-rest l =
    list_all (λ operand. is_some (evaluate (value_in l.program) (expression_in operand))) (data_in l.tokens)
    ≡ list_all (λ operand. is_some (evaluate (value_in l.program) (expression_in operand)))
    (map datum (pieces_left l.rest))

abbrev pub decreases-loop-rest : goal.decreases-loop-rest
decreases-loop-rest l = option_map_or (λ rest. length rest.now + 1) l.rest 0
