use Rattle.std.proofs.Common.{◌∙◌}
use Rattle.rv_job.specs.Fault.{unfit_line}
use Rattle.rv_job.proofs.faults.write_unfit.Goals as goal

pub returns : goal.returns
unfolding unfit_line
returns g c =
    let number_is = c.as_bytes-number.ensures.value ∙ c.format.ensures.text in
    rw (← number_is) c.put_all.ensures
