use Rattle.std.proofs.Common.{arith}
use Rattle.std.proofs.lemmas.List.Sums.{length-filter}
use Rattle.rv_counts.proofs.cycle_places.has_no_station.Goals as goal

pub returns : goal.returns
returns c = grind (arith, length-filter)
