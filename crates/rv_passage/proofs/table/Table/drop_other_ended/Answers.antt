use Rattle.std.proofs.Common.{arith}
use Rattle.rv_passage.proofs.Dropped.{open-all}
use Rattle.rv_passage.proofs.table.Table.drop_other_ended.Goals as goal

pub returns-else-not-all_are_in_flight-clause-rows : goal.returns-else-not-all_are_in_flight-clause-rows
returns-else-not-all_are_in_flight-clause-rows c = grind (arith, open-all)
