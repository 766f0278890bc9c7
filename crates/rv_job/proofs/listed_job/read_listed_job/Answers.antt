use Rattle.rv_job.specs.JobRefusal.{RefusesJob, assembly}
use Rattle.rv_job.specs.JobText.{Assembles}
use Rattle.rv_job.proofs.HandedOn.{refused_on}
use Rattle.rv_job.proofs.listed_job.read_listed_job.Goals as goal
use Rattle.rv_job.proofs.listed_job.read_listed_job.Goals.{In_ok-listed}

pub returns-in_err-listed-clause-refused : goal.returns-in_err-listed-clause-refused
returns-in_err-listed-clause-refused c =
    let read = c.in_ok-read.ensures in
    refused_on (RefusesJob c.args.text.now) _ _ c.from_residual-in_err-listed.ensures.1
    (assembly read.length read.machine read.arrivals
    (rw (← read.assembly, ← c.values-values.ensures.values) c.in_err-listed.ensures.refused))

assembled : (c : In_ok-listed) → Assembles c.args.text.now c.in_ok-read.read.description c.in_ok-listed.listed.image
assembled c = rw (← c.in_ok-read.ensures.assembly, ← c.values-values.ensures.values) c.in_ok-listed.ensures.image

pub returns-in-Ok-clause-job : goal.returns-in-Ok-clause-job
returns-in-Ok-clause-job c =
    let read = c.in_ok-read.ensures in
    record {
      job =
          c.in-Ok.ensures.job c.args.text.now read.length read.machine read.arrivals
          (assembled (goal.at.returns-in-Ok-clause-job c).In_ok-listed);
      listing =
          rw (c.in-Ok.ensures.description, ← read.assembly, ← c.values-values.ensures.values)
          c.in_ok-listed.ensures.listing;
    }
