-- Runs: cycles one after another, with the lines as the arrivals give them.
use Rattle.std.specs.Prelude.{◌≡◌, ℕ, ◌+◌, ◌^◌, ◌<◌, ◌≤◌, max, ◌==◌, Bool, true, false, not}
use Rattle.std.specs.Prelude.{if◌then◌else◌, List, [], ◌∷◌, ◌++◌, length, Option, Some, None, count_by}
use Rattle.rv_isa.specs.Arrivals.{lines_at}
use Rattle.rv_isa.specs.Description.{IsLegal}
use Rattle.rv_isa.specs.declared.{lines.Arrival.Arrival, lines.Lines.Lines, values.Values.Values}
use Rattle.rv_arch.specs.declared.outcome.Stop.{Stop}
use Rattle.rv_arch.specs.declared.outcome.Stop.TheVariants as stop
use Rattle.rv_hardware.specs.Cycle.{IsCycle, any_prediction}
use Rattle.rv_hardware.specs.Hardware.{Hardware}
use Rattle.rv_hardware.specs.Report.{Report, counted, no_stalls}
use Rattle.rv_hardware.specs.Reset.{reset_hardware, IsLoadable}
use Rattle.rv_hardware.specs.declared.{report.Stall.Stall, report.StallCounts.StallCounts, step.Step.Step}

-- the hardware that a reset and any cycles lead to; it counts 2^40 cycles
pub data Reachable : Hardware → Type 0 where
  at_reset : {values : Values} {base : ℕ} {image : List ℕ} {start : ℕ} →
      IsLegal values → IsLoadable values base image start → Reachable (reset_hardware values image start)
  by_cycle : {old new : Hardware} {lines : Lines} {report : Report} →
      Reachable old → old.cycle < 2 ^ 40 → IsCycle any_prediction lines old report new → Reachable new

-- cycles one after another, each with the lines of its number
pub data Cycles (arrivals : List Arrival) : Hardware → List Report → Hardware → Type 0 where
  ended : {h : Hardware} → Cycles arrivals h [] h
  cycled : {old middle new : Hardware} {report : Report} {reports : List Report} →
      IsCycle any_prediction (lines_at arrivals old.cycle) old report middle → Cycles arrivals middle reports new →
      Cycles arrivals old (report ∷ reports) new

-- all steps, in order
abbrev pub steps_of : List Report → List Step
steps_of [] = []
steps_of (report ∷ reports) = report.steps ++ steps_of reports

-- the cycles that dispatched something
abbrev pub busy_of : List Report → ℕ
busy_of reports = count_by (λ report. not (report.dispatched == 0)) reports

-- one more cycle, under a reason or none
abbrev pub counted_stall : Option Stall → StallCounts → StallCounts
counted_stall None counts = counts
counted_stall (Some stall) counts = counted stall counts

-- the others, by their reasons
abbrev pub stalls_from : StallCounts → List Report → StallCounts
stalls_from counts [] = counts
stalls_from counts (report ∷ reports) = stalls_from (counted_stall report.stall counts) reports

-- the cycles that dispatched nothing, by their reasons
abbrev pub stalls_of : List Report → StallCounts
stalls_of reports = stalls_from no_stalls reports

-- a cycle without steps
abbrev pub is_silent : List Step → Bool
is_silent [] = true
is_silent (step ∷ steps) = false

-- the greatest number of consecutive cycles without a step, where some came before
abbrev pub longest_gap_from : ℕ → List Report → ℕ
longest_gap_from silent [] = silent
longest_gap_from silent (report ∷ reports) =
    if is_silent report.steps then longest_gap_from (silent + 1) reports else max silent (longest_gap_from 0 reports)

-- the greatest number of consecutive cycles without a step
abbrev pub longest_gap_of : List Report → ℕ
longest_gap_of reports = longest_gap_from 0 reports

-- no cycle stopped the run
abbrev pub NoneStops : List Report → Type 0
NoneStops [] = Unit {0}
NoneStops (report ∷ reports) = (report.stop ≡ None) × NoneStops reports

-- the last cycle stopped the run, and none before it did
pub record EndsWith (reason : Stop) (reports : List Report) : Type 0 where
  pub earlier : List Report
  pub last : Report
  pub all : reports ≡ earlier ++ last ∷ []
  pub none_before : NoneStops earlier
  pub stops : last.stop ≡ Some reason

-- why a run of at most `limit` cycles ended; the limit is tested before exhaustion
abbrev pub IsStop : ℕ → List Report → Hardware → Stop → Type 0
IsStop limit reports new stop.Limit = NoneStops reports × (length reports ≡ limit)
IsStop limit reports new stop.Breakpoint = EndsWith stop.Breakpoint reports × (length reports ≤ limit)
IsStop limit reports new (stop.Stale pc) = EndsWith (stop.Stale pc) reports × (length reports ≤ limit)
IsStop limit reports new stop.Exhausted = NoneStops reports × (length reports < limit) × (new.cycle ≡ 2 ^ 40)
