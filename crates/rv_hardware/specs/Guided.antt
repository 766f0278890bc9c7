-- The hardware with the predictor that guides its fetch: what a cycle asks of it and teaches it.
use Rattle.std.specs.Prelude.{List, [], ◌∷◌}
use Rattle.rv_isa.specs.Arrivals.{lines_at}
use Rattle.rv_isa.specs.declared.{lines.Arrival.Arrival, lines.Lines.Lines}
use Rattle.rv_front.specs.Guide.{AreTaught, Guide, answers_of}
use Rattle.rv_hardware.specs.Cycle.{IsCycle}
use Rattle.rv_hardware.specs.Hardware.{Hardware}
use Rattle.rv_hardware.specs.Lessons.{lessons_of}
use Rattle.rv_hardware.specs.Report.{Report}

-- the hardware, and what is known of the predictor that guides it
pub record GuidedHardware : Type 0 where
  pub hardware : Hardware
  pub predictor : Guide

-- this hardware with this predictor
abbrev pub guided : Hardware → Guide → GuidedHardware
guided hardware predictor = record { hardware = hardware; predictor = predictor }

-- one cycle: the predictor is taught what retires in it, in order, and the fetch phase goes by what it answers then
pub record IsGuidedCycle (lines : Lines) (old : GuidedHardware) (report : Report) (new : GuidedHardware) : Type 0 where
  pub learns : AreTaught old.predictor (lessons_of report.steps new.hardware.pc) new.predictor
  pub cycle : IsCycle (answers_of new.predictor) lines old.hardware report new.hardware

-- cycles one after another, each with the lines of its number
pub data GuidedCycles (arrivals : List Arrival) : GuidedHardware → List Report → GuidedHardware → Type 0 where
  ended : {h : GuidedHardware} → GuidedCycles arrivals h [] h
  cycled : {old middle new : GuidedHardware} {report : Report} {reports : List Report} →
      IsGuidedCycle (lines_at arrivals old.hardware.cycle) old report middle →
      GuidedCycles arrivals middle reports new →
      GuidedCycles arrivals old (report ∷ reports) new
