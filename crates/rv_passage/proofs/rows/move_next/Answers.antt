use Rattle.std.proofs.Common.{arith}
use Rattle.rv_passage.proofs.Moving.{goes-left}
use Rattle.rv_passage.proofs.rows.move_next.Goals as goal

pub returns-then-go_on-clause-left : goal.returns-then-go_on-clause-left
returns-then-go_on-clause-left c = grind (arith, goes-left)
