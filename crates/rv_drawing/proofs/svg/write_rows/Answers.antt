use Rattle.std.proofs.Common.{◌∙◌, ◌+◌, ap, arith, sym}
use Rattle.rv_drawing.specs.SvgPicture.{placed_row, rows_of, svg_rows}
use Rattle.rv_drawing.proofs.SvgRows.{count-more, svg_rows-more}
use Rattle.rv_text.proofs.Saying.{says_both, says_nothing, says_same}
use Rattle.rv_drawing.proofs.svg.write_rows.Goals as goal

pub loop-row-init : goal.loop-row-init
unfolding svg_rows
loop-row-init g c = record { written = says_nothing _; shown = omega arith; few = omega arith }

pub loop-row-preserved : goal.loop-row-preserved
loop-row-preserved g c =
    let listing = c.args.listing.now in
    let window = c.args.window in
    let loop = c.loop-row in
    let line = placed_row listing window c.args.rows.now c.args.stalls.now c.args.marks.now loop.place in
    let more = svg_rows-more listing window c.args.rows.now c.args.stalls.now c.args.marks.now c.args.rows.now
    loop.row-index c.row-item.result (omega arith) loop.place loop.invariant.shown in
    let count = count-more listing window c.args.rows.now c.args.stalls.now c.args.marks.now c.args.rows.now
    loop.row-index c.row-item.result (omega arith) loop.place loop.invariant.shown in
    let here = says_same (ap line c.row-item.is) c.write_placed.ensures in
    record {
      written = says_same (sym more) (says_both loop.invariant.written here);
      shown = ap (λ n. loop.place + n) (c.rows_of-place.ensures.taken ∙ ap (rows_of window) c.row-item.is) ∙ count;
      few = omega (arith, c.rows_of-place.ensures.few, loop.invariant.few);
    }
