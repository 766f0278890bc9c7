use Rattle.std.proofs.Common.{◌∙◌}
use Rattle.std.proofs.lemmas.List.{append-nil}
use Rattle.rv_refusal.specs.Place.{line_place}
use Rattle.rv_refusal.proofs.place.add_line_place.Goals as goal

pub returns : goal.returns
unfolding line_place
returns c =
    let in_job = c.as_bytes-in_job.ensures.value ∙ c.format.ensures.text in
    let in_part = c.as_bytes-in_part.ensures.value ∙ c.format-2.ensures.text in
    let added = rw (append-nil c.args.part.now) at c.add_all.ensures in
    rw (← in_job, ← in_part) added
