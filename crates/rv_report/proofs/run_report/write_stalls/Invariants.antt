use Rattle.std.proofs.Common.{take}
use Rattle.std.specs.List.{flat_map}
use Rattle.rv_text.specs.Said.{Says}
use Rattle.rv_report.specs.Totals.{stall_line}
use Rattle.rv_report.proofs.run_report.write_stalls.Given as goal

-- the lines so far are written
abbrev pub invariant-loop-stall : goal.invariant-loop-stall
invariant-loop-stall g l =
    Says g.W.Write.contents l.initial.out l.out (flat_map (stall_line l.stalls) (take l.stall-index l.stall-items))
