-- What a run comes to whose steps are counted.
use Rattle.std.specs.Prelude.{◌≡◌, ℕ, ◌+◌, List, count_by}
use Rattle.rv_isa.specs.declared.lines.Arrival.{Arrival}
use Rattle.rv_arch.specs.declared.outcome.Stop.{Stop}
use Rattle.rv_front.specs.Guide.{Guide}
use Rattle.rv_hardware.specs.Guided.{guided}
use Rattle.rv_hardware.specs.Hardware.{Hardware}
use Rattle.rv_hardware.specs.History.{History, Moment, reports_of}
use Rattle.rv_hardware.specs.Run.{IsStop, steps_of}
use Rattle.rv_hardware.specs.Step.{is_interrupt, is_retirement, is_trap}
use Rattle.rv_watch.specs.Progress.{progress_of}
use Rattle.rv_watch.specs.declared.progress.Progress.{Progress}
use Rattle.rv_core.specs.declared.{counting.Counted.Counted, steps.Steps.Steps}

-- what these counts come to of a run that ended for a reason: the steps that were neither traps nor interrupts are
-- instructions that retired
pub record AreCounts (progress : Progress) (steps : Steps) (stop : Stop) (run : Counted) : Type 0 where
  pub progress_is : run.progress ≡ progress
  pub stop_is : run.stop ≡ stop
  pub retired : run.retired + (steps.traps + steps.interrupts) ≡ steps.count
  pub traps : run.traps ≡ steps.traps
  pub interrupts : run.interrupts ≡ steps.interrupts

-- a run of at most `limit` cycles that ended, from hardware and what was known of its predictor to both as they are then:
-- its cycles are counted, and its steps by their sort
pub record IsCountedRun (arrivals : List Arrival) (limit : ℕ) (old : Hardware) (taught : Guide) (new : Hardware)
    (learned : Guide) (run : Counted) : Type 0 where
  pub moments : List Moment
  pub passes : History arrivals (guided old taught) moments (guided new learned)
  pub progress : run.progress ≡ progress_of (reports_of moments)
  pub ends : IsStop limit (reports_of moments) new run.stop
  pub retired : run.retired ≡ count_by is_retirement (steps_of (reports_of moments))
  pub traps : run.traps ≡ count_by is_trap (steps_of (reports_of moments))
  pub interrupts : run.interrupts ≡ count_by is_interrupt (steps_of (reports_of moments))
