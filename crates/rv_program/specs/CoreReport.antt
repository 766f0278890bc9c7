-- What the report of a simulation says in the words of the hardware's definition, which has every cycle of it.
use Rattle.std.specs.Prelude.{◌≡◌, ℕ, List}
use Rattle.rv_arch.specs.declared.outcome.Stop.{Stop}
use Rattle.rv_isa.specs.declared.values.{PredictorValues.PredictorValues, Values.Values}
use Rattle.rv_front.specs.Guide.{Guide}
use Rattle.rv_front.specs.Predictors.{described, guide_of}
use Rattle.rv_hardware.specs.Guided.{GuidedCycles, GuidedHardware, guided}
use Rattle.rv_hardware.specs.Hardware.{Hardware}
use Rattle.rv_hardware.specs.Report.{Report}
use Rattle.rv_hardware.specs.Reset.{reset_hardware}
use Rattle.rv_hardware.specs.Run.{IsStop, steps_of}
use Rattle.rv_hardware.specs.Seen.{seen}
use Rattle.rv_report.specs.RunReport.{run_report}
use Rattle.rv_report.specs.Totals.{totals_at}
use Rattle.rv_report.specs.declared.options.Options.{Options}
use Rattle.rv_program.specs.ReferenceReport.{layout_of, shown}
use Rattle.rv_program.specs.SimulationReport.{IsSimulationReport}
use Rattle.rv_job.specs.declared.job.Job.{Job}

-- the hardware of a machine at reset with the image of a job
abbrev pub hardware_on : Values → Job → Hardware
hardware_on machine job = reset_hardware machine job.image.bytes job.image.start

-- that of the machine that the job describes
abbrev pub hardware_of : Job → Hardware
hardware_of job = hardware_on job.description job

-- the hardware at reset with the image of a job, guided by a predictor
abbrev pub core_of : Job → Guide → GuidedHardware
core_of job predictor = guided (hardware_of job) predictor

-- the predictor that a description names, which was taught nothing
abbrev pub untaught_of : PredictorValues → Guide
untaught_of values = guide_of (described values.kind values.entries)

-- the report of some cycles of a job, that left the hardware so
abbrev pub text_of : Job → Options → Stop → List Report → Hardware → List ℕ
text_of job options stop reports new =
    run_report (steps_of reports) (totals_at reports stop) (layout_of job.description) (seen new) new.lines
    (shown job.description.report options)

-- A text is the report of cycles of the described hardware that a predictor guides, from reset with the job's image,
-- that ended for a reason.
pub record IsCoreReport (job : Job) (predictor : Guide) (options : Options) (stop : Stop) (text : List ℕ) : Type 0 where
  pub reports : List Report
  pub end : GuidedHardware
  pub cycles : GuidedCycles job.arrivals (core_of job predictor) reports end
  pub stops : IsStop options.limit reports end.hardware stop
  pub text_is : text ≡ text_of job options stop reports end.hardware

-- a text is the report of a simulation: by what it promises, and by the hardware's definition
pub record IsSimulation (job : Job) (predictor : Guide) (options : Options) (stop : Stop) (text : List ℕ) : Type 0 where
  pub promises : IsSimulationReport job options stop text
  pub timing : IsCoreReport job predictor options stop text

-- at most one text is one, and its run ended in one way
abbrev pub IsAtMostOne : {T : Type 0} → (T → List ℕ → Type 0) → Type 0
IsAtMostOne {T} Is = (ended ended' : T) (text text' : List ℕ) → Is ended text → Is ended' text' →
    (ended ≡ ended') × (text ≡ text')
