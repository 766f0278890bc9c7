use Rattle.std.proofs.Common.{◌∙◌, ◌+◌, arith, sym}
use Rattle.rv_sentences.proofs.LineCounts.{line_continues, line_fits}
use Rattle.rv_sentences.proofs.lines.count_from.Goals as goal

pub overflow_add-count : goal.overflow_add-count
overflow_add-count c =
    let listing = c.args.listing.now in
    let first = c.args.first in
    let counts = c.args.counts.now in
    let on = sym c.goes_on.ensures ∙ c.if-not-goes_on.false in
    let more = line_continues listing first c.loop-last.last counts c.loop-last-test.true on in
    let fits = line_fits listing (first + c.args.place) c.args.place counts in
    omega (arith, c.loop-last.invariant.all, more, fits, c.requires.room)
