use Rattle.std.proofs.Common.{◌+◌, List, ℕ, Result, length, map}
use Rattle.std.specs.Option.{option_map_or}
use Rattle.rv_asm.specs.Emitted.{EmitsOrRefuses}
use Rattle.rv_asm.specs.Meaning.{data_of}
use Rattle.rv_asm.specs.Read.{data_in, datum, pieces_left}
use Rattle.rv_asm.specs.Symbols.{value_in}
use Rattle.rv_asm.specs.declared.fault.AsmFault.{AsmFault}
use Rattle.rv_asm.proofs.emit.emit_values.Given as goal

-- what the rest gives, all give
abbrev pub invariant-loop-rest : goal.invariant-loop-rest
invariant-loop-rest l = (result : Result Unit AsmFault) (new : List ℕ) →
    EmitsOrRefuses (data_of (value_in l.program) l.width (map datum (pieces_left l.rest))) l.out.items new result
    → EmitsOrRefuses (data_of (value_in l.program) l.width (data_in l.tokens)) l.initial.out.items new result

abbrev pub decreases-loop-rest : goal.decreases-loop-rest
decreases-loop-rest l = option_map_or (λ rest. length rest.now + 1) l.rest 0
