use Rattle.std.proofs.Common.{arith}
use Rattle.rv_hardware.proofs.Always.Sound.{sound}
use Rattle.rv_explain.proofs.cycle_places.in_flight.Goals as goal

pub returns-clause-few : goal.returns-clause-few
returns-clause-few c = grind (arith, sound)
