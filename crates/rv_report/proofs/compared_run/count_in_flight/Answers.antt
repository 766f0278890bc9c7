use Rattle.std.proofs.Common.{arith}
use Rattle.rv_passage.proofs.InFlight.{short_buffers}
use Rattle.rv_report.proofs.compared_run.count_in_flight.Goals as goal

pub overflow_add-result : goal.overflow_add-result
overflow_add-result c = grind (arith, short_buffers)

pub returns-clause-few : goal.returns-clause-few
returns-clause-few c = grind (arith, short_buffers)
