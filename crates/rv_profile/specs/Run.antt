-- The profile of a run.
use Rattle.std.specs.Prelude.{◌≡◌, ℕ, List, Option}
use Rattle.rv_isa.specs.declared.{lines.Arrival.Arrival, values.Values.Values}
use Rattle.rv_arch.specs.declared.outcome.Stop.{Stop}
use Rattle.rv_hardware.specs.Guided.{GuidedHardware}
use Rattle.rv_hardware.specs.History.{Moment}
use Rattle.rv_passage.specs.EndedRun.{IsEndedRun}
use Rattle.rv_causes.specs.Account.{Accounted}
use Rattle.rv_source.specs.Listing.{Listed}
use Rattle.rv_counts.specs.Head.{heads_of}
use Rattle.rv_counts.specs.Left.{passages_of_run}
use Rattle.rv_counts.specs.Load.{costs_of}
use Rattle.rv_counts.specs.Profile.{IsProfileOf}
use Rattle.rv_profile.specs.Text.{table_text}
use Rattle.rv_counts.specs.declared.counts.WordCounts.{WordCounts}

-- counts are those of a run that ended for a reason: of the instructions that left the hardware in it, and of those in flight
-- at its end
pub record IsCounted (arrivals : List Arrival) (limit : ℕ) (values : Values) (old new : GuidedHardware) (stop : Stop)
    (words : List WordCounts) : Type 0 where
  pub moments : List Moment
  pub run : IsEndedRun arrivals limit old moments new stop
  pub counted : IsProfileOf (costs_of values) (passages_of_run old.hardware moments) (heads_of moments) words

-- a text is the profile of a run that ended for a reason, with the cycles on a path, where one is shown
pub record IsProfile (arrivals : List Arrival) (limit : ℕ) (values : Values) (path : Option Accounted)
    (listing : Listed) (old new : GuidedHardware) (stop : Stop) (text : List ℕ) : Type 0 where
  pub words : List WordCounts
  pub counts : IsCounted arrivals limit values old new stop words
  pub text_is : text ≡ table_text listing path words
