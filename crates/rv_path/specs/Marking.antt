-- The marks of a window of cycles of a run: the events of instructions in it that are on the path to the run's last
-- retirement, trap or interrupt.
use Rattle.std.specs.Prelude.{◌≡◌, ℕ, ◌+◌, ◌-◌, List, filter, length, map, take}
use Rattle.rv_isa.specs.declared.lines.Arrival.{Arrival}
use Rattle.rv_arch.specs.declared.outcome.Stop.{Stop}
use Rattle.rv_causes.specs.Marked.{is_marked}
use Rattle.rv_causes.specs.Numbering.{number_in}
use Rattle.rv_causes.specs.Path.{known_of, path_of}
use Rattle.rv_causes.specs.declared.event.Event.{Event}
use Rattle.rv_drawing.specs.declared.mark.Mark.{Mark}
use Rattle.rv_hardware.specs.Guided.{GuidedHardware}
use Rattle.rv_hardware.specs.Hardware.{Hardware}
use Rattle.rv_hardware.specs.History.{Moment}
use Rattle.rv_passage.specs.EndedRun.{IsEndedRun}
use Rattle.rv_passage.specs.Table.{still_open}
use Rattle.rv_passage.specs.Walk.{passages_after, walk}

-- the mark of one, by the number of its instruction in the picture
abbrev pub mark_of : ℕ → (ℕ → ℕ) → Event → Mark
mark_of from number event = record { number = number event.at.number; column = event.cycle - from }

-- the marks of a path
abbrev pub marks_of : ℕ → (ℕ → ℕ) → List Event → List Mark
marks_of from number path = map (mark_of from number) (filter (is_marked from) path)

-- those of the path of a run, the newest event first, in the window after so many cycles
abbrev pub marks_of_run : ℕ → Hardware → List Moment → List Mark
marks_of_run from first moments =
    marks_of from (number_in (passages_after still_open first (take from moments)))
    (path_of (length moments) (known_of first (walk still_open first moments)))

-- marks are those of the path of a run that ended, in the window of so many cycles after others
pub record IsMarked (arrivals : List Arrival) (from cycles : ℕ) (old new : GuidedHardware)
    (marks : List Mark) : Type 0 where
  pub moments : List Moment
  pub stop : Stop
  pub run : IsEndedRun arrivals (from + cycles) old moments new stop
  pub marks_are : marks ≡ marks_of_run from old.hardware moments
