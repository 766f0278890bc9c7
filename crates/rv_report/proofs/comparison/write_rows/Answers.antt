use Rattle.std.proofs.Common.{map, arith}
use Rattle.rv_report.proofs.TableRows.{all_rows, row_said}
use Rattle.rv_text.proofs.Saying.{says_same}
use Rattle.rv_report.proofs.comparison.write_rows.Goals as goal

pub loop-place-preserved : goal.loop-place-preserved
loop-place-preserved g c =
    let names = map (λ name. name.items) c.args.names.now in
    let last = rw c.name_at.ensures at c.write_row.ensures in
    row_said c.args.shown.now names c.args.runs.now c.loop-place.place c.loop-place-test.true _
    c.loop-place.invariant last

pub returns : goal.returns
returns g c = grind (arith, says_same, all_rows)
