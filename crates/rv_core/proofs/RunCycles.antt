-- What is reported of the cycles of a run, with each cycle that comes.
use Rattle.std.proofs.Common.{arith}
use Rattle.rv_core.proofs.Words.{◌≡◌, lines_at, Lines, Guide, Hardware, Reachable, guided, IsCommitStop, Stop, Option}
use Rattle.rv_core.proofs.Words.{IsNextCycle, report_with, reported_with, List, [], refl, ◌∙◌, Arrival, Report}
use Rattle.rv_core.proofs.Words.{steps_of, GuidedCycles, GuidedHardware, guided_ended as ended, Step, progress_after}
use Rattle.rv_core.proofs.Words.{progress_of, IsRun, Progress}
use Rattle.rv_hardware.specs.Promise.{Reported}
use Rattle.rv_core.specs.Taking.{TakesNextCycle}
use Rattle.rv_core.specs.Reported.{TakesCycle}
use Rattle.rv_core.specs.declared.outcome.CycleEnd.{CycleEnd}
use Rattle.rv_core.specs.declared.steps.Steps.{Steps}

module _ (arrivals : List Arrival) {progress : Progress} {steps : List Step} {done : Reported} where
  -- what is reported of cycles whose counts and steps these are
  pub run_of_cycles : {old now : GuidedHardware} {reports : List Report} → GuidedCycles arrivals old reports now →
      progress ≡ progress_of reports → steps ≡ steps_of reports → done ≡ reported_with progress steps →
      IsRun arrivals old now reports done
  run_of_cycles goes counted listed is =
      record { cycled = goes; reported_is = is ∙ (λ i. reported_with (counted i) (listed i)) }

  -- what is reported of no cycle
  pub run_of_none : (h : GuidedHardware) → progress ≡ progress_of [] → steps ≡ [] →
      done ≡ reported_with progress steps → IsRun arrivals h h [] done
  run_of_none h counted none is = run_of_cycles ended counted none is

-- ---- a cycle of a run

-- a cycle that was counted with the lines of its number is the run's next
pub next_cycle : {arrivals : List Arrival} {old new : Hardware} {taught learned : Guide} {steps steps' : Steps}
    {progress progress' : Progress}
    (lines : Lines) (end : CycleEnd) (done : TakesCycle lines old taught new learned steps steps' end) →
    Reachable old → lines ≡ lines_at arrivals old.cycle → IsCommitStop end.stop →
    progress' ≡ progress_after (report_with done.0 end) progress →
    TakesNextCycle arrivals old taught new learned steps steps' progress progress' end.stop
next_cycle {old = old} {new = new} {taught = taught} {learned = learned} lines end done reached are reason counts =
    grind arith

-- such a cycle, by the steps that it reports
abbrev pub next_reported : {arrivals : List Arrival} {old new : Hardware} {taught learned : Guide}
    {steps steps' : Steps} {progress progress' : Progress} {stop : Option Stop}
    (next : TakesNextCycle arrivals old taught new learned steps steps' progress progress' stop) →
    IsNextCycle arrivals (guided old taught) (guided new learned) [] next.report.steps progress progress' stop
next_reported next = record {
  report = next.report;
  cycle = next.cycle;
  few = next.few;
  steps_are = refl;
  counted = next.counted;
  stop_is = next.stop_is;
  reason = next.reason;
}
