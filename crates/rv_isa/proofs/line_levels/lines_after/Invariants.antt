use Rattle.std.proofs.Common.{◌≡◌, drop, fold}
use Rattle.rv_isa.specs.Levels.{line_set}
use Rattle.rv_isa.proofs.line_levels.lines_after.Given as goal

abbrev pub invariant-loop-arrival : goal.invariant-loop-arrival
invariant-loop-arrival l = fold line_set l.fn.before l.arrivals
    ≡ fold line_set l.lines (drop l.arrival-index l.arrivals)
