use Rattle.std.proofs.Common.{append_assoc, arith}
use Rattle.rv_causes.proofs.seeing.notice.Goals as goal

pub returns-clause-items : goal.returns-clause-items
returns-clause-items c = grind (arith, append_assoc)
