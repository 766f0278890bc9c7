-- The paths to all for which an event may wait come to a root: all of their points do.
use Rattle.std.proofs.Common.{List, [], ◌∷◌, ◌++◌, Option, Some, None, arith}
use Rattle.std.specs.Prelude.{IfSome}
use Rattle.rv_causes.specs.Live.{before_points, drain_points, holds_points, live_points}
use Rattle.rv_causes.specs.Live.{point_of, port_points, way_points, ways_points}
use Rattle.rv_causes.specs.Path.{Known}
use Rattle.rv_causes.specs.Walk.{AllComeTo}
use Rattle.rv_causes.specs.Within.{AreHoldsOf, AreKnown, AreWaysOf, IsBeforeOf, IsWayOf}
use Rattle.rv_causes.specs.declared.{before.Before.Before, before.DrainHold.DrainHold}
use Rattle.rv_causes.specs.declared.{before.PortHold.PortHold, before.UnitHold.UnitHold}
use Rattle.rv_causes.specs.declared.{event.Event.Event, point.Point.Point, way.Way.Way}
use Rattle.rv_causes.proofs.Passing.{Leads}

module _ (root : Option Point) (all : List Event) where
  abbrev A : List Point → Type 0
  A points = AllComeTo root all points

  abbrev L : Event → Type 0
  L event = Leads root all event

  both : (ps qs : List Point) → A ps → A qs → A (ps ++ qs)
  both [] qs ps-are qs-are = qs-are
  both (p ∷ ps) qs ps-are qs-are = (ps-are.0, both ps qs ps-are.1 qs-are)

  front : (ps qs : List Point) → A (ps ++ qs) → A ps
  front [] qs are = tt
  front (p ∷ ps) qs are = (are.0, front ps qs are.1)

  back : (ps qs : List Point) → A (ps ++ qs) → A qs
  back [] qs are = are
  back (p ∷ ps) qs are = back ps qs are.1

  point_in : (o : Option Event) → IfSome o L → A (point_of o)
  point_in None is = tt
  point_in (Some event) is = (is, tt)

  point_out : (o : Option Event) → A (point_of o) → IfSome o L
  point_out None are = tt
  point_out (Some event) are = are.0

  way_in : (w : Way) → IsWayOf L w → A (way_points w)
  way_in w is = grind (arith, both, point_in)

  way_out : (w : Way) → A (way_points w) → IsWayOf L w
  way_out w are = grind (arith, back, point_out, front)

  ways_in : (ws : List Way) → AreWaysOf L ws → A (ways_points ws)
  ways_in [] are = tt
  ways_in (w ∷ ws) are = both (way_points w) (ways_points ws) (way_in w are.0) (ways_in ws are.1)

  ways_out : (ws : List Way) → A (ways_points ws) → AreWaysOf L ws
  ways_out [] are = tt
  ways_out (w ∷ ws) are =
      (way_out w (front (way_points w) (ways_points ws) are), ways_out ws (back (way_points w) (ways_points ws) are))

  holds_in : (hs : List UnitHold) → AreHoldsOf L hs → A (holds_points hs)
  holds_in [] are = tt
  holds_in (h ∷ hs) are = (are.0, holds_in hs are.1)

  holds_out : (hs : List UnitHold) → A (holds_points hs) → AreHoldsOf L hs
  holds_out [] are = tt
  holds_out (h ∷ hs) are = (are.0, holds_out hs are.1)

  port_in : (o : Option PortHold) → IfSome o (λ hold. L hold.event) → A (port_points o)
  port_in None is = tt
  port_in (Some hold) is = (is, tt)

  port_out : (o : Option PortHold) → A (port_points o) → IfSome o (λ hold. L hold.event)
  port_out None are = tt
  port_out (Some hold) are = are.0

  drain_in : (o : Option DrainHold) → IfSome o (λ drain. L drain.event) → A (drain_points o)
  drain_in None is = tt
  drain_in (Some drain) is = (is, tt)

  drain_out : (o : Option DrainHold) → A (drain_points o) → IfSome o (λ drain. L drain.event)
  drain_out None are = tt
  drain_out (Some drain) are = are.0

  before_in : (before : Before) → IsBeforeOf L before → A (before_points before)
  before_in before is = grind (arith, both, port_in, drain_in)

  before_out : (before : Before) → A (before_points before) → IsBeforeOf L before
  before_out before are = grind (arith, port_out, front, drain_out, back)

  -- where all that is known leads to the root, all points that are live do
  pub live_in : (known : Known) → AreKnown L known → A (live_points known.ways known.holds known.before)
  live_in known are = grind (arith, both, before_in, holds_in, ways_in)

  -- and where all points that are live lead to it, all that is known does
  pub live_out : (known : Known) → A (live_points known.ways known.holds known.before) → AreKnown L known
  live_out known are = grind (arith, back, ways_out, holds_out, front, before_out)
