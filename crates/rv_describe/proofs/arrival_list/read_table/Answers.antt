use Rattle.std.proofs.Common.{arith}
use Rattle.rv_describe.specs.ArrivalList.{table_meaning}
use Rattle.rv_describe.specs.Entries.{entries_meaning}
use Rattle.rv_describe.proofs.Items.{item_list-items_of}
use Rattle.rv_describe.proofs.arrival_list.read_table.Goals as goal

pub returns-in_default-clause-read : goal.returns-in_default-clause-read
unfolding table_meaning entries_meaning
returns-in_default-clause-read c =
    grind arith

pub returns-in-Some-as_array-clause-read : goal.returns-in-Some-as_array-clause-read
unfolding table_meaning
returns-in-Some-as_array-clause-read c =
    grind (arith, item_list-items_of)
