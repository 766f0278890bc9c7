-- The places are numbered, and no instruction waits.
use Rattle.std.proofs.Common.{arith}
use Rattle.std.proofs.lemmas.List.{length-replicate}
use Rattle.std.proofs.lemmas.List.FromFn.{length-range_with_len, get_or-range_with_len}
use Rattle.rv_stations.proofs.pool.StationPool.new.Goals as goal

pub returns : goal.returns
returns c = grind (arith, length-range_with_len)

pub invariant_of-result : goal.invariant_of-result
invariant_of-result c = grind (arith, length-range_with_len, get_or-range_with_len, length-replicate)
