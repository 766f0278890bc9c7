-- A run that ended.
use Rattle.std.specs.Prelude.{ℕ, List}
use Rattle.rv_isa.specs.declared.lines.Arrival.{Arrival}
use Rattle.rv_arch.specs.declared.outcome.Stop.{Stop}
use Rattle.rv_hardware.specs.Guided.{GuidedHardware}
use Rattle.rv_hardware.specs.History.{History, Moment, reports_of}
use Rattle.rv_hardware.specs.Run.{IsStop}

-- cycles one after another, at most so many, that led from the one guided hardware to the other and ended for a reason
pub record IsEndedRun (arrivals : List Arrival) (limit : ℕ) (old : GuidedHardware) (moments : List Moment)
    (new : GuidedHardware) (stop : Stop) : Type 0 where
  pub passes : History arrivals old moments new
  pub stops : IsStop limit (reports_of moments) new.hardware stop
