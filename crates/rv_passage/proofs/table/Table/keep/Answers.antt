use Rattle.std.proofs.Common.{arith}
use Rattle.std.proofs.lemmas.List.{drop-take}
use Rattle.rv_passage.proofs.table.Table.keep.Goals as goal

pub returns-clause-kept : goal.returns-clause-kept
returns-clause-kept c = grind (arith, drop-take)
