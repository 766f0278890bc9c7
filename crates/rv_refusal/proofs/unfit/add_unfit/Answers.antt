use Rattle.std.proofs.Common.{◌∙◌}
use Rattle.rv_refusal.specs.Unfit.{unfit_lines}
use Rattle.rv_refusal.proofs.unfit.add_unfit.Goals as goal

pub returns : goal.returns
unfolding unfit_lines
returns c =
    let image = c.as_bytes-image.ensures.value ∙ c.format.ensures.text in
    let ram = c.as_bytes-ram.ensures.value ∙ c.format-2.ensures.text in
    rw (← image, ← ram) c.add_all.ensures
