use Rattle.std.proofs.Common.{◌≡◌, ◌+◌, drop}
use Rattle.rv_describe.specs.Entries.{first_fall}
use Rattle.rv_describe.proofs.entries.first_fall.Given as goal

-- no arrival so far is below the one before
abbrev pub invariant-loop-index : goal.invariant-loop-index
invariant-loop-index l = first_fall 1 0 l.arrivals ≡ first_fall (l.index + 1) l.before (drop l.index l.arrivals)
