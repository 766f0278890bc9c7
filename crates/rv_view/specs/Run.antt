-- What a call that runs a pipeline leaves of it, whatever it answers; and that what it writes is a function of the run.
use Rattle.std.specs.Prelude.{◌≡◌, ℕ, ◌+◌, ◌^◌, ◌≤◌, List}
use Rattle.rv_isa.specs.declared.lines.Arrival.{Arrival}
use Rattle.rv_front.specs.Predictors.{guide_of}
use Rattle.rv_front.specs.declared.predictors.DescribedPredictor.{DescribedPredictor}
use Rattle.rv_hardware.specs.Guided.{GuidedHardware, guided}
use Rattle.rv_hardware.specs.Hardware.{Hardware}
use Rattle.rv_hardware.specs.History.{History, Moment}

-- some cycles that a predictor guides, each with the lines of its number, and nothing else
abbrev pub HasRun : List Arrival → GuidedHardware → GuidedHardware → Type 0
HasRun arrivals old new = (moments : List Moment) × History arrivals old moments new

-- of a run of at most so many cycles there is one end and one text of a kind, where a described predictor guides it
abbrev pub HasOneText : {T : Type 0} → ℕ → (GuidedHardware → GuidedHardware → T → List ℕ → Type 0) → Type 0
HasOneText {T} limit Is =
    (h : Hardware) (predictor : DescribedPredictor) (new new' : GuidedHardware) (end end' : T) (text text' : List ℕ) →
    h.cycle + limit ≤ 2 ^ 40 → Is (guided h (guide_of predictor)) new end text →
    Is (guided h (guide_of predictor)) new' end' text' → (end ≡ end') × (text ≡ text')
