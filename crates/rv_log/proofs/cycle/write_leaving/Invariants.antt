use Rattle.std.proofs.Common.{take}
use Rattle.std.specs.List.{flat_map}
use Rattle.rv_log.specs.Event.{left_at}
use Rattle.rv_text.specs.Said.{Says}
use Rattle.rv_log.proofs.cycle.write_leaving.Given as goal

-- what comes before is said
abbrev pub invariant-loop-row : goal.invariant-loop-row
invariant-loop-row g l =
    Says g.W.Write.contents l.initial.out l.out (flat_map (left_at l.first l.cycle) (take l.row-index l.rows))
