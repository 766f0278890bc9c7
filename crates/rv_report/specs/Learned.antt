-- What the predictor knows that guided a run which came to its end.
use Rattle.std.specs.Prelude.{ℕ, List}
use Rattle.rv_isa.specs.declared.lines.Arrival.{Arrival}
use Rattle.rv_arch.specs.declared.outcome.Stop.{Stop}
use Rattle.rv_front.specs.Guide.{Guide}
use Rattle.rv_hardware.specs.Guided.{GuidedCycles, GuidedHardware, guided}
use Rattle.rv_hardware.specs.Hardware.{Hardware}
use Rattle.rv_hardware.specs.Report.{Report}
use Rattle.rv_hardware.specs.Run.{IsStop}

-- a predictor was taught by the cycles of such a run, up to a limit of them, and by nothing else
pub record IsTaughtByRun (arrivals : List Arrival) (limit : ℕ) (old : GuidedHardware) (predictor : Guide) : Type 0 where
  pub reports : List Report
  pub hardware : Hardware
  pub stop : Stop
  pub cycles : GuidedCycles arrivals old reports (guided hardware predictor)
  pub stops : IsStop limit reports hardware stop
