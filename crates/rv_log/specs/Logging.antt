-- What a log keeps while it is written.
use Rattle.std.specs.Prelude.{◌≡◌, ℕ, List, [], ◌∷◌, Option, None}
use Rattle.rv_hardware.specs.declared.report.Stall.{Stall}
use Rattle.rv_watch.specs.Watching.{Watched}
use Rattle.rv_passage.specs.Walk.{FollowedCycle}
use Rattle.rv_source.specs.Listing.{Listed}
use Rattle.rv_view.specs.Viewing.{cycles_seen}

-- why the last of some cycles dispatched nothing, or of none the cycle before
abbrev pub last_stall : Option Stall → List FollowedCycle → Option Stall
last_stall before [] = before
last_stall before (cycle ∷ cycles) = last_stall cycle.report.stall cycles

-- the listing that there was at first, the number of the first of the cycles so far, and why the last of them dispatched nothing
pub record IsLogging (listing listing' : Listed) (first : ℕ) (stall : Option Stall) (seen : Watched) : Type 0 where
  pub same : listing' ≡ listing
  pub began : first ≡ seen.first.hardware.cycle
  pub stalled : stall ≡ last_stall None (cycles_seen seen)
