use Rattle.std.proofs.Common.{arith}
use Rattle.rv_counts.proofs.FoundCounts.{counted_on}
use Rattle.rv_counts.proofs.in_flight.count_dispatched_among.Goals as goal

pub loop-entry-preserved : goal.loop-entry-preserved
loop-entry-preserved c = grind (arith, counted_on)
