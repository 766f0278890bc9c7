-- The path that leads to an event of a run: the walk back by the event that each one waited for last.
use Rattle.std.specs.Prelude.{◌≡◌, ℕ, ◌≤◌, Bool, false, if◌then◌else◌, List, [], ◌∷◌, Option, Some, None, ◌⊎◌}
use Rattle.rv_causes.specs.Point.{is_point}
use Rattle.rv_causes.specs.declared.{point.Point.Point, event.Event.Event}

-- an event is the one that a walk wants
abbrev pub is_wanted : Option Point → Event → Bool
is_wanted None event = false
is_wanted (Some point) event = is_point event.at point

-- The path that leads to the event at a point: that event, then the one that it waited for last, and so on. The newest
-- of all events is the first.
abbrev pub path_to : List Event → Option Point → List Event
path_to [] wanted = []
path_to (event ∷ older) wanted =
    if is_wanted wanted event then event ∷ path_to older event.before else path_to older wanted

-- what a walk wants past an event, and past several
abbrev pub past : Event → Option Point → Option Point
past event wanted = if is_wanted wanted event then event.before else wanted

abbrev pub beyond : List Event → Option Point → Option Point
beyond [] wanted = wanted
beyond (event ∷ older) wanted = beyond older (past event wanted)

-- no event comes after so many cycles, nor an older one after a newer one
abbrev pub AreInTime : ℕ → List Event → Type 0
AreInTime cycles [] = Unit {0}
AreInTime cycles (event ∷ older) = (event.cycle ≤ cycles) × AreInTime event.cycle older

-- a walk comes to a root, or to the beginning of the run
abbrev pub ComesTo : Option Point → List Event → Option Point → Type 0
ComesTo root events wanted = (beyond events wanted ≡ root) ⊎ (beyond events wanted ≡ None)

-- each of some walks does
abbrev pub AllComeTo : Option Point → List Event → List Point → Type 0
AllComeTo root events [] = Unit {0}
AllComeTo root events (point ∷ points) = ComesTo root events (Some point) × AllComeTo root events points
