use Rattle.rv_job.specs.JobRefusal.{description}
use Rattle.rv_program.proofs.task.read_sensitivity.Goals as goal

-- memory may be refused for a job that is read
pub returns-in-Err-clause-refused : goal.returns-in-Err-clause-refused
returns-in-Err-clause-refused c = description c.in_ok-job.ensures.job.length tt
