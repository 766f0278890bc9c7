use Rattle.std.proofs.Common.{take}
use Rattle.std.specs.List.{flat_map}
use Rattle.rv_text.specs.Said.{Says}
use Rattle.rv_report.specs.Shown.{count_cell}
use Rattle.rv_report.proofs.shown.write_each.Given as goal

-- the counts so far are said
abbrev pub invariant-loop-count : goal.invariant-loop-count
invariant-loop-count g l =
    Says g.W.Write.contents l.initial.out l.out (flat_map count_cell (take l.count-index l.counts))
