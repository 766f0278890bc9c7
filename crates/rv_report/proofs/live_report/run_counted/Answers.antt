use Rattle.rv_report.proofs.LiveReport.{counted_to_the_end}
use Rattle.rv_report.proofs.live_report.run_counted.Goals as goal

pub returns : goal.returns
returns g c output = counted_to_the_end c.count_run-run.ensures c.requires.no_trace c.new.ensures output
