use Rattle.std.proofs.Common.{take}
use Rattle.rv_states.specs.Json.{values_from}
use Rattle.rv_text.specs.Said.{Says}
use Rattle.rv_states.proofs.array.write_values.Given as goal

-- the values so far are said
abbrev pub invariant-loop-place : goal.invariant-loop-place
invariant-loop-place g l =
    Says g.W.Write.contents l.initial.out l.out (values_from 0 (take l.place (g.T.Values.values l.values)))
