-- A cycle of a run whose steps are taken.
use Rattle.std.specs.Prelude.{◌≡◌, ◌≤◌, List, length, Option}
use Rattle.rv_isa.specs.Arrivals.{lines_at}
use Rattle.rv_isa.specs.declared.lines.Arrival.{Arrival}
use Rattle.rv_arch.specs.declared.outcome.Stop.{Stop}
use Rattle.rv_front.specs.Guide.{Guide}
use Rattle.rv_hardware.specs.Hardware.{Hardware}
use Rattle.rv_hardware.specs.Report.{Report}
use Rattle.rv_hardware.specs.Run.{Reachable}
use Rattle.rv_watch.specs.Progress.{IsCommitStop, progress_after}
use Rattle.rv_watch.specs.declared.progress.Progress.{Progress}
use Rattle.rv_core.specs.Reported.{DoesCycle}
use Rattle.rv_core.specs.Steps.{Takes}
use Rattle.rv_core.specs.declared.steps.Steps.{Steps}

-- one more cycle of a run, with the lines of its number, of hardware that a reset and cycles lead to: its steps are taken,
-- and it is counted
pub record TakesNextCycle (arrivals : List Arrival) (old : Hardware) (taught : Guide) (new : Hardware)
    (learned : Guide) (steps steps' : Steps) (progress progress' : Progress) (stop : Option Stop) : Type 0 where
  pub reached : Reachable old
  pub report : Report
  pub cycle : DoesCycle (lines_at arrivals old.cycle) old taught report new learned
  pub few : length report.steps ≤ 8
  pub taken : Takes steps steps' report.steps
  pub counted : progress' ≡ progress_after report progress
  pub stop_is : report.stop ≡ stop
  pub reason : IsCommitStop stop
