-- The instructions of a cycle with their events, and those that are looked for.
use Rattle.std.specs.Prelude.{ℕ, ◌-◌, ◌==◌, if◌then◌else◌, List, [], ◌∷◌, Option, Some, None, slice_get}
use Rattle.std.specs.Option.{option_or}
use Rattle.rv_passage.specs.declared.passage.Passage.{Passage}
use Rattle.rv_causes.specs.Sought.{is_sought}
use Rattle.rv_causes.specs.declared.{sought.Sought.Sought, way.Way.Way}

-- an instruction with its events
pub record Journey : Type 0 where
  pub row : Passage
  pub way : Way

-- one, if it is looked for
abbrev pub sought_of : Sought → Passage → Way → Option Journey
sought_of sought p w = if is_sought sought p then Some (record { row = p; way = w }) else None

-- the first that is looked for, of those with their events
abbrev pub first_of : Sought → List Passage → List Way → Option Journey
first_of sought [] ways = None
first_of sought (p ∷ ps) [] = None
first_of sought (p ∷ ps) (w ∷ ws) =
    if is_sought sought p then Some (record { row = p; way = w }) else first_of sought ps ws

-- the last one
abbrev pub last_of : Sought → List Passage → List Way → Option Journey
last_of sought [] ways = None
last_of sought (p ∷ ps) [] = None
last_of sought (p ∷ ps) (w ∷ ws) = option_or (last_of sought ps ws) (sought_of sought p w)

-- the one at a place
abbrev pub journey_of : Option Passage → Option Way → Option Journey
journey_of None way = None
journey_of (Some p) None = None
journey_of (Some p) (Some w) = Some (record { row = p; way = w })

abbrev pub one_at : ℕ → List Passage → List Way → Option Journey
one_at place rows ways = journey_of (slice_get rows place) (slice_get ways place)

-- the one before a place
abbrev pub one_before : ℕ → List Passage → List Way → Option Journey
one_before place rows ways = if place == 0 then None else one_at (place - 1) rows ways
