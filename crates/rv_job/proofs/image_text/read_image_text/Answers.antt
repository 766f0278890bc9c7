use Rattle.std.proofs.Common.{subst, sym}
use Rattle.rv_job.specs.ImageRefusal.{RefusesImage, too_long, description, assembly}
use Rattle.rv_job.specs.JobText.{Describes}
use Rattle.rv_job.proofs.HandedOn.{refused_on}
use Rattle.rv_job.proofs.image_text.read_image_text.Goals as goal

pub returns-in_err-parts-clause-refused : goal.returns-in_err-parts-clause-refused
returns-in_err-parts-clause-refused c =
    refused_on (RefusesImage c.args.text.now) _ _ c.from_residual.ensures.1
    (subst (RefusesImage c.args.text.now) (sym c.in_err-parts.ensures.too_long)
    (too_long c.in_err-parts.ensures.refused))

pub returns-in_err-description-clause-refused : goal.returns-in_err-description-clause-refused
returns-in_err-description-clause-refused c =
    refused_on (RefusesImage c.args.text.now) _ _ c.from_residual-in_err-description.ensures.1
    (description c.in_ok-parts.ensures.length (rw (← c.in_ok-parts.ensures.parts) c.in_err-description.ensures.refused))

pub returns-in-Err-clause-refused : goal.returns-in-Err-clause-refused
returns-in-Err-clause-refused c =
    let parts_are = c.in_ok-parts.ensures.parts in
    let described : Describes c.args.text.now c.in_ok-description.description =
    rw (← parts_are) c.in_ok-description.ensures.machine in
    assembly c.in_ok-parts.ensures.length described
    (rw (← parts_are, ← c.values.ensures.values) c.in-Err.ensures.refused)
