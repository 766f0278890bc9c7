-- The predictor after a run.
use Rattle.std.specs.Prelude.{ℕ, Bool, List, Option}
use Rattle.rv_isa.specs.declared.lines.Arrival.{Arrival}
use Rattle.rv_arch.specs.declared.outcome.Stop.{Stop}
use Rattle.rv_front.specs.Guide.{Guide}
use Rattle.rv_hardware.specs.Guided.{GuidedHardware, guided}
use Rattle.rv_hardware.specs.Hardware.{Hardware}
use Rattle.rv_hardware.specs.History.{History, Moment, reports_of}
use Rattle.rv_hardware.specs.Run.{IsStop}
use Rattle.rv_watch.proofs.Shown.{cycles_shown}
use Rattle.rv_report.specs.Learned.{IsTaughtByRun}
use Rattle.rv_report.specs.LiveReport.{IsTraced}
use Rattle.rv_report.specs.declared.{options.Options.Options, totals.Totals.Totals}

-- it was taught by the cycles that ended
pub taught_by_run : {arrivals : List Arrival} {limit : ℕ} {old : GuidedHardware} {moments : List Moment}
    {hardware : Hardware} {predictor : Guide} → History arrivals old moments (guided hardware predictor) → (stop : Stop)
    → IsStop limit (reports_of moments) hardware stop → IsTaughtByRun arrivals limit old predictor
taught_by_run {moments = moments} {hardware = hardware} passes stop stops =
    record {
      reports = reports_of moments;
      hardware = hardware;
      stop = stop;
      cycles = cycles_shown passes;
      stops = stops;
    }

-- the same of cycles whose trace was written
pub taught_by_trace : {arrivals : List Arrival} {options : Options} {old new : GuidedHardware} {totals : Totals}
    {failed : Bool} {before after : Option (List ℕ)} → IsTraced arrivals options old new totals failed before after
    → IsTaughtByRun arrivals options.limit old new.predictor
taught_by_trace {new = new} {totals = totals} traced =
    record {
      reports = traced.reports;
      hardware = new.hardware;
      stop = totals.stop;
      cycles = traced.cycles;
      stops = traced.stops;
    }
