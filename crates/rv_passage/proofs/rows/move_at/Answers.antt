use Rattle.std.proofs.Common.{arith}
use Rattle.rv_passage.proofs.Moving.{first-is, set-split}
use Rattle.rv_passage.proofs.rows.move_at.Goals as goal

pub returns-clause-moved : goal.returns-clause-moved
returns-clause-moved c = grind (arith, first-is, set-split)

pub returns-clause-left : goal.returns-clause-left
returns-clause-left c = grind (arith, first-is)
