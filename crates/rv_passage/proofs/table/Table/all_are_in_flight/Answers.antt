use Rattle.std.proofs.Common.{arith}
use Rattle.rv_passage.proofs.Dropped.{all-open}
use Rattle.rv_passage.proofs.table.Table.all_are_in_flight.Goals as goal

pub returns-then-rows-self : goal.returns-then-rows-self
returns-then-rows-self c = grind (arith, all-open)
