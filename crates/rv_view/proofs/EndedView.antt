-- What views rest on: the run that they were shown, and one cycle more of its walk.
use Rattle.std.proofs.Common.{◌≡◌, ℕ, List, [], ◌∷◌, ◌++◌, Option, subst}
use Rattle.std.specs.Prelude.{Bool, Result, Ok}
use Rattle.rv_isa.specs.declared.lines.Arrival.{Arrival}
use Rattle.rv_arch.specs.declared.outcome.Stop.{Stop}
use Rattle.rv_watch.specs.Watching.{IsEnd, IsShown, Watched, with_shown}
use Rattle.rv_watch.specs.declared.progress.Progress.{Progress}
use Rattle.rv_hardware.specs.Guided.{GuidedHardware}
use Rattle.rv_hardware.specs.Hardware.{Hardware}
use Rattle.rv_hardware.specs.History.{reports_of}
use Rattle.rv_hardware.specs.declared.step.Step.{Step}
use Rattle.rv_passage.specs.EndedRun.{IsEndedRun}
use Rattle.rv_passage.specs.Table.{still_open}
use Rattle.rv_passage.specs.declared.table.Table.{Table}
use Rattle.rv_passage.proofs.Walk.{walk-push}
use Rattle.rv_view.specs.Viewing.{IsViewedRun, Saying, Seeing, cycle_shown, cycles_seen}

-- a run that the view did not refuse to see ended for its reason
pub ended_by : {V Refusal : Type 0} {has_seen : Seeing V} {text : Saying V} {arrivals : List Arrival} {limit : ℕ} {old
    new : GuidedHardware} {view view' : V} {table : Table} {progress : Progress}
    {end : Result Stop Refusal} {was failed : Bool} {before now : Option (List ℕ)}
    (run : IsViewedRun has_seen text arrivals limit old new view view' table progress end was failed before
    now) (stop : Stop)
    → end ≡ Ok stop → IsEndedRun arrivals limit old run.moments new stop
ended_by {limit = limit} {new = new} run stop is =
    record { passes = run.passes; stops = subst (λ e. IsEnd limit (reports_of run.moments) new.hardware e) is run.ends }

-- the walk has one cycle more
pub cycles_seen-push : {cycle : ℕ} {steps : List Step} {after : Hardware} {progress : Progress} (seen : Watched)
    (shown : IsShown seen cycle steps after progress)
    → cycles_seen (with_shown seen shown) ≡ cycles_seen seen ++ cycle_shown seen shown ∷ []
cycles_seen-push {after = after} seen shown =
    walk-push still_open shown.passes (record { report = shown.report; after = after })
