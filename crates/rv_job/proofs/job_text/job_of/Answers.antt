use Rattle.std.proofs.Common.{ap, arith}
use Rattle.rv_isa.specs.declared.values.Values.{Values}
use Rattle.rv_job.specs.JobRefusal.{unfit}
use Rattle.rv_job.proofs.job_text.job_of.Goals as goal
use Rattle.rv_job.proofs.job_text.job_of.Goals.{else-len-values-via-then-len-values+else-image-eq0}
use Rattle.rv_job.proofs.job_text.job_of.Goals.{else-len-values-via-else-len-values}

pub returns-else-len-values-clause-refused : goal.returns-else-len-values-clause-refused
returns-else-len-values-clause-refused c = λ text legal described listed assembled.
    rw (c.len-else-len-values.ensures, ap (λ (values : Values). values.ram_size) c.values-values.ensures.values)
    (unfit legal described listed assembled
    (λ fits. elim c.else-len-values.branch [
      | else-len-values-via-then-len-values+else-image-eq0 w ↦ w.if-image-eq0.false fits.1
      | else-len-values-via-else-len-values w ↦
          omega (
            arith,
            fits.0,
            w.if-len-values.false,
            c.len.ensures,
            ap (λ (values : Values). values.ram_size) c.values-values.ensures.values,
          )
    ]))
