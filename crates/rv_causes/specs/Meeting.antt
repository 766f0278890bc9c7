-- Where several walks meet; no public clause names these.
use Rattle.std.specs.Prelude.{◌≡◌, not, if◌then◌else◌, List, [], ◌∷◌, ◌++◌, filter, Option, Some, None, ◌⊎◌}
use Rattle.std.specs.List.{list_any}
use Rattle.std.specs.Option.{option_to_list}
use Rattle.rv_causes.specs.Point.{is_point}
use Rattle.rv_causes.specs.declared.{point.Point.Point, event.Event.Event}

-- a point is among some
abbrev pub HasPoint : Point → List Point → Type 0
HasPoint point [] = ⊥
HasPoint point (other ∷ others) = (other ≡ point) ⊎ HasPoint point others

-- what a walk wants is among some, if it wants something
abbrev pub IsAmong : Option Point → List Point → Type 0
IsAmong None points = Unit {0}
IsAmong (Some point) points = HasPoint point points

-- with what an event waited for
abbrev pub with_before : Option Point → List Point → List Point
with_before before points = points ++ option_to_list before

-- what walks want past an event
abbrev pub passed : Event → List Point → List Point
passed event points =
    if list_any (is_point event.at) points
    then with_before event.before (filter (λ point. not (is_point event.at point)) points)
    else points
