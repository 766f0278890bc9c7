use Rattle.std.proofs.Common.{arith}
use Rattle.rv_passage.proofs.InFlight.{entry_here, word_here}
use Rattle.rv_passage.proofs.Moving.{next-found}
use Rattle.rv_passage.proofs.rows.go_on.Goals as goal

pub returns-then-next-dispatched : goal.returns-then-next-dispatched
returns-then-next-dispatched c = grind (arith, entry_here, next-found)

pub returns-else-next-dispatched : goal.returns-else-next-dispatched
returns-else-next-dispatched c = grind (arith, word_here, next-found)

pub go_on_as_entry-requires-clause-still : goal.go_on_as_entry-requires-clause-still
go_on_as_entry-requires-clause-still c = grind (arith, entry_here, next-found)

pub go_on_as_fetched-requires-clause-still : goal.go_on_as_fetched-requires-clause-still
go_on_as_fetched-requires-clause-still c = grind (arith, word_here, next-found)
