use Rattle.std.proofs.Common.{arith}
use Rattle.rv_passage.proofs.InFlight.{entry_here, word_here}
use Rattle.rv_passage.proofs.Moving.{next-found}
use Rattle.rv_passage.proofs.in_flight.is_before.Goals as goal

pub returns-then-place-dispatched : goal.returns-then-place-dispatched
returns-then-place-dispatched c = grind (arith, entry_here, next-found)

pub returns-else-place-dispatched : goal.returns-else-place-dispatched
returns-else-place-dispatched c = grind (arith, word_here, next-found)
