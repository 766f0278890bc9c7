use Rattle.std.proofs.Common.{length-drop, arith}
use Rattle.rv_causes.proofs.Nothing.{first_of_nothing}
use Rattle.rv_causes.proofs.sought.first_of.Goals as goal

-- none comes after the last
pub returns : goal.returns
returns c = grind (arith, length-drop, first_of_nothing)
