use Rattle.std.proofs.Common.{arith}
use Rattle.rv_causes.proofs.Forgotten.{drop-joined}
use Rattle.rv_causes.proofs.seeing.see_shown.Goals as goal

pub returns : goal.returns
returns c = grind (arith, drop-joined)
