-- How long a run can be without a step.
use Rattle.std.specs.Prelude.{◌≡◌, ◌<◌, List, [], ◌∷◌, ◌++◌, length, None}
use Rattle.rv_isa.specs.Description.{gap_bound_of}
use Rattle.rv_isa.specs.declared.lines.Arrival.{Arrival}
use Rattle.rv_hardware.specs.Hardware.{Hardware}
use Rattle.rv_hardware.specs.Report.{Report}
use Rattle.rv_hardware.specs.Run.{Cycles, Reachable, longest_gap_of}

-- no cycle stopped the run but the last, if it did
abbrev pub OnlyLastStops : List Report → Type 0
OnlyLastStops [] = Unit {0}
OnlyLastStops (report ∷ []) = Unit {0}
OnlyLastStops (report ∷ next ∷ reports) = (report.stop ≡ None) × OnlyLastStops (next ∷ reports)

-- no cycle had a step
abbrev pub AreSilent : List Report → Type 0
AreSilent [] = Unit {0}
AreSilent (report ∷ reports) = (report.steps ≡ []) × AreSilent reports

-- A run from any hardware that a reset and cycles lead to:
pub record HasBoundedGaps (old : Hardware) (reports : List Report) : Type 0 where
  -- its longest gap is below the bound
  pub longest : longest_gap_of reports < gap_bound_of old.values
  -- and as many consecutive cycles as the bound are never all without a step
  pub consecutive : (before silent after : List Report) → reports ≡ before ++ silent ++ after → AreSilent silent →
      length silent < gap_bound_of old.values

-- such a run is never silent for as many cycles as the bound of its description, unless it has stopped
abbrev pub NoSilence : Type 0
NoSilence =
    (arrivals : List Arrival) (old new : Hardware) (reports : List Report) → Reachable old →
    Cycles arrivals old reports new → OnlyLastStops reports → HasBoundedGaps old reports
