-- One more place in a row.
use Rattle.std.proofs.Common.{arith}
use Rattle.std.proofs.lemmas.List.FromFn.{length-range_with_len}
use Rattle.rv_stations.proofs.PlaceLemmas.{range-next}
use Rattle.rv_stations.proofs.places.first_places.Goals as goal

pub push_reserved-requires : goal.push_reserved-requires
push_reserved-requires c = grind (arith, length-range_with_len)

pub loop-place-preserved : goal.loop-place-preserved
loop-place-preserved c = grind (arith, range-next)
