use Rattle.std.proofs.Common.{◌≡◌, ◌≤◌, take}
use Rattle.std.specs.Prelude.{count_by}
use Rattle.rv_causes.specs.Sought.{is_sought}
use Rattle.rv_causes.proofs.sought.count.Given as goal

-- those so far are counted
abbrev pub invariant-loop-row : goal.invariant-loop-row
invariant-loop-row l = (l.found ≡ count_by (is_sought l.sought) (take l.row-index l.rows)) × (l.found ≤ l.row-index)
