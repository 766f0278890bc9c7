-- Each event of a run but the first waited for one that came before it, and what the cause of its wait says is so of the two.
use Rattle.std.specs.Prelude.{◌≡◌, ℕ, true, List, [], ◌∷◌, Some, ◌⊎◌}
use Rattle.rv_hardware.specs.Hardware.{Hardware}
use Rattle.rv_hardware.specs.History.{Moment}
use Rattle.rv_passage.specs.Table.{still_open}
use Rattle.rv_passage.specs.Walk.{walk}
use Rattle.rv_causes.specs.Claims.{claim_of, is_so}
use Rattle.rv_causes.specs.Event.{nothing_yet}
use Rattle.rv_causes.specs.Path.{known_of}
use Rattle.rv_causes.specs.declared.{event.Event.Event, point.Point.Point}

-- what the cause of an event says is so of it, where it waited for one at a point after so many cycles
abbrev pub IsSo : Point → ℕ → Event → Type 0
IsSo waited cycle event = is_so (claim_of event.reason.cause) waited cycle event.at event.cycle ≡ true

-- an event at a point after so many cycles is among some
abbrev pub HasEvent : Point → ℕ → List Event → Type 0
HasEvent at cycle [] = ⊥
HasEvent at cycle (event ∷ events) = ((event.at ≡ at) × (event.cycle ≡ cycle)) ⊎ HasEvent at cycle events

-- an event waited for one of some
pub record IsCausedBy (older : List Event) (event : Event) : Type 0 where
  pub waited : Point
  pub cycle : ℕ
  pub is_older : HasEvent waited cycle older
  pub before : event.before ≡ Some waited
  pub so : IsSo waited cycle event

-- of events, newest first, the oldest is the beginning of the run, and each other one waited for an older one
abbrev pub AreCaused : List Event → Type 0
AreCaused [] = Unit {0}
AreCaused (event ∷ []) = event ≡ nothing_yet
AreCaused (event ∷ other ∷ older) = IsCausedBy (other ∷ older) event × AreCaused (other ∷ older)

-- whatever cycles follow one another, that is so of all events that are known after them
abbrev pub CausesAreSo : Type 0
CausesAreSo =
    (first : Hardware) (moments : List Moment) → AreCaused (known_of first (walk still_open first moments)).events
