-- The promise: what is true of every run of the described hardware, of which so much was reported.
use Rattle.std.specs.Prelude.{ℕ, ◌<◌, List, length}
use Rattle.rv_isa.specs.Description.{gap_bound_of}
use Rattle.rv_isa.specs.declared.{lines.Arrival.Arrival, values.Values.Values}
use Rattle.rv_arch.specs.State.{State}
use Rattle.rv_hardware.specs.Headline.{IsTrueRun}
use Rattle.rv_hardware.specs.Laws.{AreCounted, Laws, TakesDueInterrupts}
use Rattle.rv_hardware.specs.LongestGap.{IsLongestGap}
use Rattle.rv_hardware.specs.Report.{Report}
use Rattle.rv_hardware.specs.Run.{busy_of, longest_gap_of, stalls_of, steps_of}
use Rattle.rv_hardware.specs.Seen.{layout_of}
use Rattle.rv_hardware.specs.declared.{report.StallCounts.StallCounts, step.Step.Step}

-- what is reported of a run, beside why it ended
pub record Reported : Type 0 where
  -- the steps, in program order
  pub steps : List Step
  -- the cycles that dispatched nothing, by the reason, those that dispatched something, and all
  pub stalls : StallCounts
  pub busy : ℕ
  pub cycles : ℕ
  -- the greatest number of consecutive cycles without a step
  pub longest_gap : ℕ

-- what is reported of some cycles
abbrev pub reported_of : List Report → Reported
reported_of reports = record {
  steps = steps_of reports;
  stalls = stalls_of reports;
  busy = busy_of reports;
  cycles = length reports;
  longest_gap = longest_gap_of reports;
}

-- The promise, of a run whose cycles are numbered from `first` to below `done`: the state before and after it is the one
-- that programs see.
pub record IsPromised (values : Values) (arrivals : List Arrival) (first done : ℕ) (before : State) (run : Reported)
    (after : State) : Type 0 where
  -- the steps are the one-at-a-time machine's, each with the lines of its cycle, and lead from the one state to the other
  pub runs : IsTrueRun (layout_of values) arrivals first done before run.steps after
  -- they obey the laws of the described core
  pub laws : Laws values first done run.steps
  -- an interrupt that is due in a cycle is its one step
  pub due : TakesDueInterrupts (layout_of values) arrivals first done before run.steps
  -- each cycle is counted once, as busy or as stalled for one reason
  pub counted : AreCounted first done run.steps run.busy run.stalls run.cycles
  -- no consecutive cycles without a step are more than the reported ones
  pub longest_gap : IsLongestGap first done run.steps run.longest_gap
  -- and those are fewer than the bound of the description
  pub gap_bounded : run.longest_gap < gap_bound_of values
