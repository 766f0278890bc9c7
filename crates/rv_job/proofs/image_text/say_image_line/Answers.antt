use Rattle.std.proofs.Common.{◌∙◌, ap, decimal}
use Rattle.rv_job.specs.ImageText.{image_line}
use Rattle.rv_job.proofs.image_text.say_image_line.Goals as goal

pub returns : goal.returns
unfolding image_line
returns g c =
    let count_is = c.as_bytes-count.ensures.value ∙ c.format.ensures.text ∙ ap decimal c.len.ensures in
    let start_is = c.as_slice.ensures ∙ c.hexadecimal-start.ensures in
    rw (← count_is, ← start_is) c.put_all.ensures
