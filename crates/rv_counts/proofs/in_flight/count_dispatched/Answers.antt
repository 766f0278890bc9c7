use Rattle.std.proofs.Common.{length-append, arith}
use Rattle.rv_counts.proofs.FoundCounts.{counted_runs}
use Rattle.rv_counts.proofs.in_flight.count_dispatched.Goals as goal

pub returns : goal.returns
returns c = grind (arith, counted_runs, length-append)
