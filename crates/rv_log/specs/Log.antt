-- The log of a run in Konata's format, version 0004.
use Rattle.std.specs.Prelude.{◌≡◌, ℕ, List, [], ◌∷◌, ◌++◌, codes, decimal, Option, None, Bool}
use Rattle.std.specs.List.{flat_map}
use Rattle.rv_isa.specs.declared.lines.Arrival.{Arrival}
use Rattle.rv_arch.specs.declared.outcome.Stop.{Stop}
use Rattle.rv_hardware.specs.Guided.{GuidedHardware}
use Rattle.rv_hardware.specs.Hardware.{Hardware}
use Rattle.rv_hardware.specs.History.{Moment}
use Rattle.rv_hardware.specs.declared.report.Stall.{Stall}
use Rattle.rv_passage.specs.EndedRun.{IsEndedRun}
use Rattle.rv_passage.specs.Table.{still_open, table_at}
use Rattle.rv_passage.specs.Walk.{FollowedCycle, walk}
use Rattle.rv_passage.specs.declared.passage.Passage.{Passage}
use Rattle.rv_source.specs.Listing.{Listed}
use Rattle.rv_text.specs.Said.{IsSaid}
use Rattle.rv_log.specs.Command.{appearance_text}
use Rattle.rv_log.specs.Dependence.{row_at}
use Rattle.rv_log.specs.Event.{left_at}
use Rattle.rv_log.specs.Room.{room_at}
use Rattle.rv_log.specs.declared.room.Stalled.{Stalled}

-- the format, and the number of the first cycle
unfoldable pub head_text : ℕ → List ℕ
head_text cycle = codes "Kanata\t0004\nC=\t" ++ (decimal cycle ++ codes "\n")

-- what is in flight before the first cycle appears there
unfoldable pub begin_text : Listed → ℕ → List Passage → List ℕ
begin_text listing cycle rows = head_text cycle ++ flat_map (appearance_text listing) rows

-- a cycle of a log from some cycle on: what became of each instruction in it and whose results woke it, which room is
-- waited for that was not before, that the cycle passes, and then what left the hardware in it, whose last stage lasts
-- to its end
unfoldable pub cycle_text : Listed → ℕ → ℕ → Stalled → List Passage → List ℕ
cycle_text listing first cycle stalled rows =
    flat_map (row_at listing cycle) rows
    ++ (room_at cycle stalled rows ++ (codes "C\t1\n" ++ flat_map (left_at first cycle) rows))

-- cycles one after the other, where the cycle before dispatched nothing for a reason
abbrev pub cycles_text : Listed → ℕ → Option Stall → List FollowedCycle → List ℕ
cycles_text listing first before [] = []
cycles_text listing first before (cycle ∷ cycles) =
    cycle_text listing first cycle.number (record { before = before; reason = cycle.report.stall }) cycle.passages.rows
    ++ cycles_text listing first cycle.report.stall cycles

-- the cycles from some hardware on; of the cycle before nothing is known
unfoldable pub log_text : Listed → Hardware → List Moment → List ℕ
log_text listing first moments =
    begin_text listing first.cycle (table_at first).rows
    ++ cycles_text listing first.cycle None (walk still_open first moments)

-- a text is the log of a run that ended for a reason
pub record IsLog (arrivals : List Arrival) (limit : ℕ) (listing : Listed) (old new : GuidedHardware) (stop : Stop)
    (text : List ℕ) : Type 0 where
  pub moments : List Moment
  pub run : IsEndedRun arrivals limit old moments new stop
  pub text_is : text ≡ log_text listing old.hardware moments

-- the log of a run that ended for a reason is written, or a beginning of it where a write failed
abbrev pub WritesLog : List Arrival → ℕ → Listed → GuidedHardware → GuidedHardware → Stop → Bool → Option (List ℕ) →
    Option (List ℕ) → Type 0
WritesLog arrivals limit listing old new stop failed before after =
    (text : List ℕ) × IsLog arrivals limit listing old new stop text × IsSaid failed before after text
