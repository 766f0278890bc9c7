use Rattle.std.proofs.Common.{◌∙◌, ap}
use Rattle.rv_isa.specs.Key.{text_at}
use Rattle.rv_job.specs.Fault.{description_line}
use Rattle.rv_job.proofs.faults.write_description_fault.Goals as goal

pub returns : goal.returns
unfolding description_line
returns g c =
    let name_is = c.as_bytes-name.ensures.value ∙ c.name.ensures in
    let gap_is = c.as_bytes-gap.ensures.value ∙ c.gap.ensures in
    let key_is = c.as_bytes-key.ensures.value ∙ c.key_name.ensures ∙ ap text_at c.place.ensures in
    rw (← name_is, ← gap_is, ← key_is) c.put_all.ensures
