use Rattle.std.proofs.Common.{arith}
use Rattle.rv_passage.proofs.Moving.{length-numbered_from}
use Rattle.rv_passage.proofs.table.Table.begin.Goals as goal

pub returns-clause-table : goal.returns-clause-table
returns-clause-table c = grind arith

pub returns-clause-room : goal.returns-clause-room
returns-clause-room c = grind (arith, returns-clause-table, length-numbered_from)

pub returns-clause-few : goal.returns-clause-few
returns-clause-few c = grind (arith, returns-clause-table, length-numbered_from)
