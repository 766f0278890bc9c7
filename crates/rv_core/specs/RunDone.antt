-- What a run reports, and what it reports where there is no memory for the steps of a further cycle.
use Rattle.std.specs.Prelude.{◌≡◌, ℕ, ◌<◌, List, length, Result, MatchResult}
use Rattle.rv_isa.specs.declared.lines.Arrival.{Arrival}
use Rattle.rv_front.specs.Guide.{Guide}
use Rattle.rv_hardware.specs.Guided.{GuidedCycles, GuidedHardware, guided}
use Rattle.rv_hardware.specs.Hardware.{Hardware}
use Rattle.rv_hardware.specs.Promise.{IsPromised, Reported, reported_of}
use Rattle.rv_hardware.specs.Report.{Report}
use Rattle.rv_hardware.specs.Run.{IsStop, NoneStops}
use Rattle.rv_hardware.specs.Seen.{seen}
use Rattle.rv_hardware.specs.declared.step.Step.{Step}
use Rattle.rv_watch.specs.declared.progress.Progress.{Progress}
use Rattle.rv_core.specs.declared.{errors.OutOfMemory.OutOfMemory, outcome.Outcome.Outcome}

-- what is reported of a run with these steps, by the counts of its cycles
abbrev pub reported_with : Progress → List Step → Reported
reported_with progress steps = record {
  steps = steps;
  stalls = progress.stalls;
  busy = progress.busy;
  cycles = progress.cycles;
  longest_gap = progress.longest_gap;
}

-- what a run reports that ended
abbrev pub reported : Outcome → Reported
reported outcome = record {
  steps = outcome.steps.items;
  stalls = outcome.stalls;
  busy = outcome.busy;
  cycles = outcome.cycles;
  longest_gap = outcome.longest_gap;
}

-- what one reports that ended when out of memory
abbrev pub reported_so_far : OutOfMemory → Reported
reported_so_far done = record {
  steps = done.steps.items;
  stalls = done.stalls;
  busy = done.busy;
  cycles = done.cycles;
  longest_gap = done.longest_gap;
}

-- cycles one after another, with all that is reported of them
pub record IsRun (arrivals : List Arrival) (old new : GuidedHardware) (reports : List Report)
    (run : Reported) : Type 0 where
  pub cycled : GuidedCycles arrivals old reports new
  pub reported_is : run ≡ reported_of reports

-- a run of at most `limit` cycles that ended
abbrev pub IsOutcome : List Arrival → ℕ → GuidedHardware → GuidedHardware → Outcome → Type 0
IsOutcome arrivals limit old new outcome =
    (reports : List Report) × IsRun arrivals old new reports (reported outcome)
    × IsStop limit reports new.hardware outcome.stop

-- one that ended when out of memory: nothing stopped it, and it had cycles left
abbrev pub IsCutShort : List Arrival → ℕ → GuidedHardware → GuidedHardware → OutOfMemory → Type 0
IsCutShort arrivals limit old new done =
    (reports : List Report) × IsRun arrivals old new reports (reported_so_far done)
    × NoneStops reports × (length reports < limit)

-- a run that ended, or one that out of memory cut short, from hardware and what was known of its predictor to both as
-- they are then
abbrev pub IsDone : List Arrival → ℕ → Hardware → Guide → Hardware → Guide → Result Outcome OutOfMemory → Type 0
IsDone arrivals limit old taught new learned done =
    MatchResult done (λ outcome. IsOutcome arrivals limit (guided old taught) (guided new learned) outcome)
    (λ short. IsCutShort arrivals limit (guided old taught) (guided new learned) short)

-- what is promised of a run of hardware
abbrev pub KeepsPromise : List Arrival → Hardware → Hardware → Reported → Type 0
KeepsPromise arrivals old new run = IsPromised old.values arrivals old.cycle new.cycle (seen old) run (seen new)

-- what is promised of a run that ended, or that out of memory cut short
abbrev pub KeepsItsPromise : List Arrival → Hardware → Hardware → Result Outcome OutOfMemory → Type 0
KeepsItsPromise arrivals old new done =
    MatchResult done (λ outcome. KeepsPromise arrivals old new (reported outcome))
    (λ short. KeepsPromise arrivals old new (reported_so_far short))
