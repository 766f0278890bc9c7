use Rattle.std.proofs.Common.{refl, arith}
use Rattle.rv_job.proofs.HandedOn.{handed_on}
use Rattle.rv_program.specs.Task.{done}
use Rattle.rv_program.specs.declared.task.Task.TheVariants.{Check}
use Rattle.rv_program.proofs.Ending.{Ends-after, Ends-by_write}
use Rattle.rv_program.proofs.task.finish.Goals as goal

pub returns-in_err-write_image_line-in-Check : goal.returns-in_err-write_image_line-in-Check
returns-in_err-write_image_line-in-Check g c =
    let predictor = (goal.Predictor-dyn g (c.args.predictor.predictor.vtable, c.args.predictor.predictor.value)).known
    c.args.predictor.predictor.value in
    let ended = Ends-by_write (Check c.in-Check.made) predictor done _ _ _ (refl, refl)
    c.in_err-write_image_line-in-Check.ensures in
    rw (c.in-Check.is, handed_on _ _ c.from_residual.ensures.1) ended

pub returns-in-Run : goal.returns-in-Run
returns-in-Run g c = grind (arith, Ends-after)

pub returns-in-Reference : goal.returns-in-Reference
returns-in-Reference g c = grind (arith, Ends-after)

pub returns-in-Show : goal.returns-in-Show
returns-in-Show g c = grind (arith, Ends-after)

pub returns-in-Compare : goal.returns-in-Compare
returns-in-Compare g c = grind (arith, Ends-after)

pub returns-in-Sensitivity : goal.returns-in-Sensitivity
returns-in-Sensitivity g c = grind (arith, Ends-after)
