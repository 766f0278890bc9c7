-- The cycles of a run that a picture shows.
use Rattle.std.specs.Prelude.{◌≡◌, ℕ, Bool, true, false, List, drop, length, map, take, Option, None}
use Rattle.std.specs.List.{find}
use Rattle.std.specs.Option.{option_map}
use Rattle.rv_isa.specs.declared.lines.Arrival.{Arrival}
use Rattle.rv_arch.specs.declared.outcome.Stop.{Stop}
use Rattle.rv_arch.specs.declared.outcome.Stop.TheVariants as stop
use Rattle.rv_hardware.specs.Guided.{GuidedHardware}
use Rattle.rv_hardware.specs.Hardware.{Hardware}
use Rattle.rv_hardware.specs.History.{Moment, reports_of}
use Rattle.rv_hardware.specs.Report.{Report}
use Rattle.rv_hardware.specs.declared.report.Stall.{Stall}
use Rattle.rv_watch.specs.Watching.{Watched}
use Rattle.rv_passage.specs.EndedRun.{IsEndedRun}
use Rattle.rv_passage.specs.Followed.{HasFollowed}
use Rattle.rv_passage.specs.Passage.{is_in_flight}
use Rattle.rv_passage.specs.Table.{Passages, passages_of}
use Rattle.rv_passage.specs.Walk.{all_kept, hardware_after, passages_after}
use Rattle.rv_passage.specs.declared.passage.Passage.{Passage}
use Rattle.rv_drawing.specs.declared.window.Window.{Window}
use Rattle.rv_picture.specs.declared.recording.Recording.{Recording}

-- what each cycle waited for, where it dispatched nothing
abbrev pub stalls_in : List Report → List (Option Stall)
stalls_in reports = map (λ (report : Report). report.stall) reports

-- what became of the instructions in the cycles that were seen, and what each of the cycles waited for
pub record IsRecording (table : Passages) (stalls : List (Option Stall)) (seen : Watched) : Type 0 where
  pub followed : HasFollowed all_kept seen.first.hardware seen.moments seen.now.hardware table
  pub stalls_are : stalls ≡ stalls_in (reports_of seen.moments)

-- cycles that ended by their limit
abbrev pub is_limit : Stop → Bool
is_limit stop.Limit = true
is_limit stop.Breakpoint = false
is_limit (stop.Stale pc) = false
is_limit stop.Exhausted = false

-- the number of the instruction whose stale word ended a run: the oldest in flight
abbrev pub stopped_at : Stop → List Passage → Option ℕ
stopped_at (stop.Stale pc) rows = option_map (λ (p : Passage). p.number) (find is_in_flight rows)
stopped_at stop.Breakpoint rows = None
stopped_at stop.Limit rows = None
stopped_at stop.Exhausted rows = None

-- what became of the instructions in some cycles, the window of these, and what each of them waited for
pub record Recorded : Type 0 where
  pub table : Passages
  pub window : Window
  pub stalls : List (Option Stall)

-- what a recording holds
abbrev pub held_by : Recording → Recorded
held_by recording =
    record { table = passages_of recording.table; window = recording.window; stalls = recording.stalls.items }

-- a window of all of some cycles from some hardware on, after which a run ended for a reason
abbrev pub window_of : Hardware → List Moment → Stop → Passages → Window
window_of first moments reason table =
    record { first = first.cycle; cycles = length moments; stopped = stopped_at reason table.rows }

-- of these cycles
abbrev pub recorded_from : Hardware → List Moment → Stop → Recorded
recorded_from first moments reason = record {
  table = passages_after all_kept first moments;
  window = window_of first moments reason (passages_after all_kept first moments);
  stalls = stalls_in (reports_of moments);
}

-- of a run but its first cycles, so many; where it ended before, of no cycle
abbrev pub recorded_after : ℕ → Hardware → List Moment → Stop → Recorded
recorded_after from first moments reason =
    recorded_from (hardware_after first (take from moments)) (drop from moments) reason

-- a run of at most so many cycles, of which those after the first `from` were recorded
pub record IsRecorded (arrivals : List Arrival) (from limit : ℕ) (old new : GuidedHardware) (reason : Stop)
    (kept : Recorded) : Type 0 where
  pub moments : List Moment
  pub run : IsEndedRun arrivals limit old moments new reason
  pub kept_is : kept ≡ recorded_after from old.hardware moments reason
