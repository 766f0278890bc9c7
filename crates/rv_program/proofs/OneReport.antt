-- A job with a described predictor has one report.
use Rattle.std.proofs.Common.{◌^◌, ◌≤◌, arith}
use Rattle.rv_front.specs.Predictors.{guide_of}
use Rattle.rv_front.specs.declared.predictors.DescribedPredictor.{DescribedPredictor}
use Rattle.rv_hardware.proofs.Determined.{run_once}
use Rattle.rv_report.specs.declared.options.Options.{Options}
use Rattle.rv_program.specs.CoreReport.{IsAtMostOne, IsSimulation}
use Rattle.rv_job.specs.declared.job.Job.{Job}

-- the cycles of two reports of a job are the same cycles
pub one_report_of : (job : Job) (predictor : DescribedPredictor) (options : Options) → options.limit ≤ 2 ^ 40 →
    IsAtMostOne (IsSimulation job (guide_of predictor) options)
one_report_of job predictor options within stop stop' text text' is is' = grind (arith, run_once)
