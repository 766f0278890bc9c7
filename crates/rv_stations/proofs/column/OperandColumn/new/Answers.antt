-- Tags of no producer, and the value 0.
use Rattle.std.proofs.Common.{arith}
use Rattle.std.proofs.lemmas.List.{length-replicate, get_or-replicate}
use Rattle.rv_stations.proofs.ZipLemmas.{zip2-replicate}
use Rattle.rv_stations.proofs.column.OperandColumn.new.Goals as goal

pub returns : goal.returns
returns c = grind (arith, zip2-replicate)

pub invariant_of-result : goal.invariant_of-result
invariant_of-result c = grind (arith, zip2-replicate, length-replicate, get_or-replicate)
