use Rattle.std.proofs.Common.{◌≡◌, ◌+◌, drop, map}
use Rattle.toml.specs.View.{view}
use Rattle.rv_describe.specs.Entries.{first_with}
use Rattle.rv_describe.proofs.entries.first_with.Given as goal

-- no entry so far has the fault
abbrev pub invariant-loop-index : goal.invariant-loop-index
invariant-loop-index l = first_with l.fault 1 (map view l.entries)
    ≡ first_with l.fault (l.index + 1) (map view (drop l.index l.entries))
