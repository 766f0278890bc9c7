use Rattle.std.proofs.Common.{◌++◌, List, ℕ, ap, append-nil, codes}
use Rattle.rv_text.specs.Line.{count_line, line_of, ratio_text}
use Rattle.rv_report.specs.Totals.{cycle_lines}
use Rattle.rv_report.specs.declared.totals.Totals.{Totals}
use Rattle.rv_text.proofs.Saying.{says_same}
use Rattle.rv_report.proofs.run_report.write_cycles.Goals as goal

-- the lines of the counts, with what comes after them
abbrev lines_before : Totals → List ℕ → List ℕ
lines_before t rest =
    count_line (codes "cycles") t.cycles ++
    (count_line (codes "retired") t.steps.retired ++
    (count_line (codes "traps") t.steps.traps ++
    (count_line (codes "interrupts") t.steps.interrupts ++
    (line_of (codes "cpi") (ratio_text t.cycles t.steps.retired) ++
    (count_line (codes "longest_gap") t.longest_gap ++ rest)))))

pub returns : goal.returns
unfolding cycle_lines count_line
returns g c = says_same (ap (lines_before c.args.totals.now) (append-nil _)) c.put_fields.ensures
