use Rattle.rv_log.proofs.Logging.{logged_on, logging_on}
use Rattle.rv_log.proofs.running.LoggerView.see.Goals as goal

pub returns-clause-seen : goal.returns-clause-seen
returns-clause-seen g c start seen next logging = logging_on next logging

pub returns-clause-said : goal.returns-clause-said
returns-clause-said g c start seen next logging = (_, c.write_cycle.ensures, logged_on next logging)
