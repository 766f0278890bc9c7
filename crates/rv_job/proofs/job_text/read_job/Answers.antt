use Rattle.rv_job.specs.JobRefusal.{assembly}
use Rattle.rv_job.specs.JobText.{Assembles}
use Rattle.rv_job.proofs.job_text.read_job.Goals as goal
use Rattle.rv_job.proofs.job_text.read_job.Goals.{In-Ok}

pub returns-in-Err-clause-refused : goal.returns-in-Err-clause-refused
returns-in-Err-clause-refused c =
    let read = c.in_ok-read.ensures in
    assembly read.length read.machine read.arrivals
    (rw (← read.assembly, ← c.values-values.ensures.values) c.in-Err.ensures.refused)

assembled : (c : In-Ok) → Assembles c.args.text.now c.in_ok-read.read.description c.in-Ok.image
assembled c = rw (← c.in_ok-read.ensures.assembly, ← c.values-values.ensures.values) c.in-Ok.ensures.image
