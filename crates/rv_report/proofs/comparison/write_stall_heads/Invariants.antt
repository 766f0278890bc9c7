use Rattle.std.proofs.Common.{take}
use Rattle.std.specs.List.{flat_map}
use Rattle.rv_text.specs.Said.{Says}
use Rattle.rv_report.specs.Comparison.{stall_head}
use Rattle.rv_report.proofs.comparison.write_stall_heads.Given as goal

-- the names so far are written
abbrev pub invariant-loop-stall : goal.invariant-loop-stall
invariant-loop-stall g l =
    Says g.W.Write.contents l.initial.out l.out (flat_map stall_head (take l.stall-index l.stall-items))
