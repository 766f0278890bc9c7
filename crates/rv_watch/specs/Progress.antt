-- The counts of a run after some cycles.
use Rattle.std.specs.Prelude.{◌≡◌, ℕ, ◌+◌, ◌≤◌, max, ◌==◌, Bool, if◌then◌else◌}
use Rattle.std.specs.Prelude.{List, [], ◌∷◌, ◌++◌, length, Option, Some, None}
use Rattle.rv_isa.specs.Arrivals.{lines_at}
use Rattle.rv_isa.specs.declared.lines.Arrival.{Arrival}
use Rattle.rv_arch.specs.declared.outcome.Stop.{Stop}
use Rattle.rv_arch.specs.declared.outcome.Stop.TheVariants.{Breakpoint, Stale, Limit, Exhausted}
use Rattle.rv_hardware.specs.Guided.{GuidedHardware, IsGuidedCycle}
use Rattle.rv_hardware.specs.Report.{Report, count_of}
use Rattle.rv_hardware.specs.Run.{busy_of, counted_stall, is_silent, longest_gap_of, stalls_of}
use Rattle.rv_hardware.specs.declared.{report.Stall.Stall, step.Step.Step}
use Rattle.rv_watch.specs.declared.progress.Progress.{Progress}

-- the cycles since the last step, with one more
abbrev pub silence_after : Bool → ℕ → ℕ
silence_after silent silence = if silent then silence + 1 else 0

-- the cycles since the last step, where some came before
abbrev pub silence_from : ℕ → List Report → ℕ
silence_from silence [] = silence
silence_from silence (report ∷ reports) = silence_from (silence_after (is_silent report.steps) silence) reports

-- what the last of some cycles waited for, where it dispatched nothing
abbrev pub last_stall_of : List Report → Option Stall
last_stall_of [] = None
last_stall_of (report ∷ []) = report.stall
last_stall_of (report ∷ next ∷ reports) = last_stall_of (next ∷ reports)

-- the counts of some cycles
abbrev pub progress_of : List Report → Progress
progress_of reports = record {
  stalls = stalls_of reports;
  busy = busy_of reports;
  cycles = length reports;
  stall = last_stall_of reports;
  silent = silence_from 0 reports;
  longest_gap = longest_gap_of reports;
}

-- the counts with one more cycle
abbrev pub progress_after : Report → Progress → Progress
progress_after report progress = record {
  stalls = counted_stall report.stall progress.stalls;
  busy = if report.dispatched == 0 then progress.busy else progress.busy + 1;
  cycles = progress.cycles + 1;
  stall = report.stall;
  silent = silence_after (is_silent report.steps) progress.silent;
  longest_gap = max progress.longest_gap (silence_after (is_silent report.steps) progress.silent);
}

-- why a commit stops a run, if it does: a breakpoint, or a stale word
abbrev pub IsCommitStop : Option Stop → Type 0
IsCommitStop None = Unit {0}
IsCommitStop (Some Breakpoint) = Unit {0}
IsCommitStop (Some (Stale pc)) = Unit {0}
IsCommitStop (Some Limit) = ⊥
IsCommitStop (Some Exhausted) = ⊥

-- one more cycle of a run, with the lines of its number: its steps stand after those before, and it is counted
pub record IsNextCycle (arrivals : List Arrival) (old new : GuidedHardware) (steps steps' : List Step)
    (progress progress' : Progress) (stop : Option Stop) : Type 0 where
  pub report : Report
  pub cycle : IsGuidedCycle (lines_at arrivals old.hardware.cycle) old report new
  pub few : length report.steps ≤ 8
  pub steps_are : steps' ≡ steps ++ report.steps
  pub counted : progress' ≡ progress_after report progress
  pub stop_is : report.stop ≡ stop
  pub reason : IsCommitStop stop

-- no count is above that of the cycles
pub record IsBounded (progress : Progress) : Type 0 where
  pub busy : progress.busy ≤ progress.cycles
  pub silent : progress.silent ≤ progress.cycles
  pub stalls : (stall : Stall) → count_of stall progress.stalls ≤ progress.cycles
