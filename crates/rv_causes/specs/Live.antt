-- The events for which one of a later cycle may wait.
use Rattle.std.specs.Prelude.{List, [], ◌∷◌, ◌++◌, Option, Some, None}
use Rattle.rv_causes.specs.Setting.{last_left}
use Rattle.rv_causes.specs.declared.{before.Before.Before, before.DrainHold.DrainHold}
use Rattle.rv_causes.specs.declared.{before.PortHold.PortHold, before.UnitHold.UnitHold}
use Rattle.rv_causes.specs.declared.{event.Event.Event, point.Point.Point, way.Way.Way}

-- that of an event, if there is one
abbrev pub point_of : Option Event → List Point
point_of None = []
point_of (Some event) = event.at ∷ []

-- those of an instruction
abbrev pub way_points : Way → List Point
way_points way = way.fetch.at ∷ (point_of way.dispatch ++ (point_of way.issue ++ point_of way.broadcast))

abbrev pub ways_points : List Way → List Point
ways_points [] = []
ways_points (way ∷ ways) = way_points way ++ ways_points ways

-- those from which units are held
abbrev pub holds_points : List UnitHold → List Point
holds_points [] = []
holds_points (hold ∷ holds) = hold.event.at ∷ holds_points holds

-- those from which the port is held, and by which a store drains
abbrev pub port_points : Option PortHold → List Point
port_points None = []
port_points (Some hold) = hold.event.at ∷ []

abbrev pub drain_points : Option DrainHold → List Point
drain_points None = []
drain_points (Some drain) = drain.event.at ∷ []

abbrev pub before_points : Before → List Point
before_points before = (last_left before.left).at ∷ (port_points before.port ++ drain_points before.drain)

-- all of them
abbrev pub live_points : List Way → List UnitHold → Before → List Point
live_points ways holds before = before_points before ++ (holds_points holds ++ ways_points ways)
