use Rattle.std.proofs.Common.{arith, length-drop}
use Rattle.rv_causes.proofs.Forgotten.{are_forgotten}
use Rattle.rv_causes.proofs.path.Path.forgotten.Goals as goal

pub returns : goal.returns
returns c = grind (arith, length-drop, are_forgotten)
