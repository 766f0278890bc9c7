use Rattle.std.proofs.Common.{◌≡◌, ap, arith}
use Rattle.rv_drawing.specs.ColumnText.{column_text}
use Rattle.rv_drawing.specs.Columns.{columns}
use Rattle.rv_text.proofs.Saying.{says_below, says_nothing, says_same}
use Rattle.rv_text.proofs.Writing.{texts_below}
use Rattle.rv_drawing.proofs.columns.write_columns.Goals as goal

pub loop-column-init : goal.loop-column-init
unfolding texts_below
loop-column-init g c = says_nothing _

pub loop-column-preserved : goal.loop-column-preserved
loop-column-preserved g c =
    says_below (column_text c.args.shown c.args.window) c.loop-column.column c.loop-column.invariant
    c.write_column.ensures

pub returns : goal.returns
unfolding texts_below columns
returns g c =
    let all : c.loop-column.column ≡ c.args.window.cycles = omega arith in
    says_same (ap (texts_below (column_text c.args.shown c.args.window)) all) c.loop-column.invariant
