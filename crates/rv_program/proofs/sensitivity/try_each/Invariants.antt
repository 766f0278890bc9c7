use Rattle.std.proofs.Common.{take}
use Rattle.std.specs.List.{AllZip}
use Rattle.rv_program.specs.Sensitivity.{IsTried}
use Rattle.rv_program.proofs.sensitivity.try_each.Given as goal

-- the neighbours so far are tried
abbrev pub invariant-loop-neighbour : goal.invariant-loop-neighbour
invariant-loop-neighbour l = AllZip (IsTried l.options l.job) (take l.neighbour-index l.neighbours) l.runs.items
