use Rattle.std.proofs.Common.{append_assoc, arith}
use Rattle.rv_causes.proofs.seeing.see.Goals as goal

pub returns : goal.returns
returns c = grind (arith, append_assoc)
