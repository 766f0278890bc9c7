-- Cycles one after another, with the hardware that each left.
use Rattle.std.specs.Prelude.{List, [], ◌∷◌}
use Rattle.rv_isa.specs.Arrivals.{lines_at}
use Rattle.rv_isa.specs.declared.lines.Arrival.{Arrival}
use Rattle.rv_front.specs.Guide.{Guide}
use Rattle.rv_hardware.specs.Guided.{GuidedHardware, IsGuidedCycle, guided}
use Rattle.rv_hardware.specs.Hardware.{Hardware}
use Rattle.rv_hardware.specs.Report.{Report}

-- what a cycle reported, and the hardware that it left
pub record Moment : Type 0 where
  pub report : Report
  pub after : Hardware

-- what the cycles reported
abbrev pub reports_of : List Moment → List Report
reports_of [] = []
reports_of (moment ∷ moments) = moment.report ∷ reports_of moments

-- cycles one after another, each with the lines of its number; a moment leaves out the predictor, which no watcher is shown
pub data History (arrivals : List Arrival) : GuidedHardware → List Moment → GuidedHardware → Type 0 where
  ended : {h : GuidedHardware} → History arrivals h [] h
  cycled : {old new : GuidedHardware} {moment : Moment} {predictor : Guide} {moments : List Moment} →
      IsGuidedCycle (lines_at arrivals old.hardware.cycle) old moment.report (guided moment.after predictor) →
      History arrivals (guided moment.after predictor) moments new →
      History arrivals old (moment ∷ moments) new
