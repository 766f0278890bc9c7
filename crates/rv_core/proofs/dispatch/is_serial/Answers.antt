use Rattle.std.proofs.Common.{arith}
use Rattle.rv_core.proofs.Ties.Dispatch.{serial-youngest}
use Rattle.rv_core.proofs.dispatch.is_serial.Goals as goal

pub returns-in-Some : goal.returns-in-Some
returns-in-Some c = grind (arith, serial-youngest)

pub returns-in-None : goal.returns-in-None
returns-in-None c = grind (arith, serial-youngest)
