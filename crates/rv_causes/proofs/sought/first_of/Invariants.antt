use Rattle.std.proofs.Common.{◌≡◌, drop}
use Rattle.rv_causes.specs.Lookup.{first_of}
use Rattle.rv_causes.proofs.sought.first_of.Given as goal

-- none of those so far is looked for
abbrev pub invariant-loop-place : goal.invariant-loop-place
invariant-loop-place l = first_of l.sought (drop l.place l.rows) (drop l.place l.ways) ≡ first_of l.sought l.rows l.ways
