-- What is so of a job's own run.
use Rattle.std.proofs.Common.{◌≡◌, subst}
use Rattle.std.specs.Prelude.{Err, IfOk, Ok, Result}
use Rattle.rv_front.specs.Guide.{Guide}
use Rattle.rv_hardware.specs.Guided.{GuidedHardware, guided}
use Rattle.rv_hardware.specs.Hardware.{Hardware}
use Rattle.rv_job.specs.declared.job.Job.{Job}
use Rattle.rv_program.specs.AskedPath.{own_core}
use Rattle.rv_program.specs.CoreReport.{hardware_of, untaught_of}

-- of a run from the same hardware with the same predictor
pub of_own_run : {T E : Type 0} (job : Job) (Is : GuidedHardware → GuidedHardware → T → Type 0)
    (result : Result T E) {h : Hardware} {predictor : Guide} (end : GuidedHardware)
    → h ≡ hardware_of job → predictor ≡ untaught_of job.description.predictor →
    IfOk result (Is (guided h predictor) end)
    → IfOk result (λ found. (end : GuidedHardware) × Is (own_core job) end found)
of_own_run job Is (Ok found) end made known is =
    (end, subst (λ (old : GuidedHardware). Is old end found) (λ i. guided (made i) (known i)) is)
of_own_run job Is (Err error) end made known is = tt
