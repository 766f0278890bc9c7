use Rattle.std.proofs.Common.{sym, arith}
use Rattle.std.proofs.lemmas.List.{length-take-le, take_all}
use Rattle.rv_describe.proofs.entries.foremost.Goals as goal

pub slice_bounds-result-end : goal.slice_bounds-result-end
slice_bounds-result-end c = sym (length-take-le 100000 c.args.entries.now (omega arith))

pub returns-else-entries-gt-MOST_ARRIVALS : goal.returns-else-entries-gt-MOST_ARRIVALS
returns-else-entries-gt-MOST_ARRIVALS c = sym (take_all 100000 c.args.entries.now c.if-entries-gt-MOST_ARRIVALS.false)
