use Rattle.std.proofs.Common.{map, take}
use Rattle.std.specs.List.{enumerate_from, flat_map}
use Rattle.rv_text.specs.Said.{Says}
use Rattle.rv_report.specs.Comparison.{row_of}
use Rattle.rv_report.proofs.comparison.write_rows.Given as goal

-- the lines so far are written
abbrev pub invariant-loop-place : goal.invariant-loop-place
invariant-loop-place g l =
    Says g.W.Write.contents l.initial.out l.out
    (flat_map (row_of l.shown (map (λ name. name.items) l.names)) (take l.place (enumerate_from 1 l.runs)))
