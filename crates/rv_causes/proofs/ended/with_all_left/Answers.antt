use Rattle.std.proofs.Common.{arith}
use Rattle.rv_causes.proofs.AllLeft.{all_left}
use Rattle.rv_causes.proofs.ended.with_all_left.Goals as goal

pub returns-in-Some : goal.returns-in-Some
returns-in-Some c = grind (arith, all_left)
