use Rattle.std.proofs.Common.{append-nil, arith}
use Rattle.rv_causes.proofs.NoHolds.{no_new_holds}
use Rattle.rv_causes.proofs.holding.push_holds.Goals as goal

pub returns-else-any_begins_hold-clause-items : goal.returns-else-any_begins_hold-clause-items
returns-else-any_begins_hold-clause-items c = grind (arith, no_new_holds, append-nil)
