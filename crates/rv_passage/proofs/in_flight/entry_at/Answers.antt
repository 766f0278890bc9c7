use Rattle.std.proofs.Common.{arith}
use Rattle.rv_rob.proofs.Places.{entry_of-distance}
use Rattle.rv_passage.proofs.in_flight.entry_at.Goals as goal

pub returns : goal.returns
returns c = grind (arith, entry_of-distance)
