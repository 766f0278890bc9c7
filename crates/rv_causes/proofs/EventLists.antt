-- What holds of each event of lists, and of what is found among them.
use Rattle.std.proofs.Common.{ℕ, zero, suc, List, [], ◌∷◌, ◌++◌, filter, replicate, Option, Some, None, arith}
use Rattle.std.specs.Prelude.{Bool, true, false, if◌then◌else◌, IfSome, slice_get, slice_set}
use Rattle.std.specs.Option.{option_or, unwrap_or}
use Rattle.rv_passage.specs.declared.passage.{Passage.Passage}
use Rattle.rv_causes.specs.Lookup.{Journey, first_of, journey_of, last_of, one_before}
use Rattle.rv_causes.specs.Path.{Known, still_in_flight}
use Rattle.rv_causes.specs.Sought.{is_sought}
use Rattle.rv_causes.specs.Within.{AreHoldsOf, AreKnown, AreWaysOf, IsBeforeOf, IsWayOf}
use Rattle.rv_causes.specs.declared.{before.Before.Before, before.UnitHold.UnitHold, event.Event.Event}
use Rattle.rv_causes.specs.declared.{sought.Sought.Sought, way.Way.Way}

-- of the events of an instruction that is found, if one is
abbrev pub J : (Event → Type 0) → Journey → Type 0
J P journey = IsWayOf P journey.way

-- what holds of the events of a journey, where there is one
abbrev pub OJ : (Event → Type 0) → Option Journey → Type 0
OJ P journey = IfSome journey (J P)

-- what holds of both holds of either
pub if_with : {X : Type 0} (Q : X → Type 0) (b : Bool) {x y : X} → Q x → Q y → Q (if b then x else y)
if_with Q true x y = x
if_with Q false x y = y

-- what holds of either of two, where it is there, holds of the first that is there
pub or_with : {X : Type 0} (Q : X → Type 0) (a b : Option X) → IfSome a Q → IfSome b Q → IfSome (option_or a b) Q
or_with Q None b a-is b-is = b-is
or_with Q (Some a) b a-is b-is = a-is

-- what holds of a value, where it is there, and of the default holds of the one that is taken
pub unwrap_with : {X : Type 0} (Q : X → Type 0) (o : Option X) (d : X) → IfSome o Q → Q d → Q (unwrap_or o d)
unwrap_with Q None d o-is d-is = d-is
unwrap_with Q (Some x) d o-is d-is = o-is

-- it holds of the first that is sought
pub first_have : (P : Event → Type 0) (sought : Sought) (ps : List Passage) (ws : List Way) → AreWaysOf P ws
    → IfSome (first_of sought ps ws) (J P)
first_have P sought [] ws within = tt
first_have P sought (p ∷ ps) [] within = tt
first_have P sought (p ∷ ps) (w ∷ ws) within =
    if_with (OJ P) (is_sought sought p) within.0 (first_have P sought ps ws within.1)

-- it holds of the last that is sought
pub last_have : (P : Event → Type 0) (sought : Sought) (ps : List Passage) (ws : List Way) → AreWaysOf P ws
    → IfSome (last_of sought ps ws) (J P)
last_have P sought [] ws within = tt
last_have P sought (p ∷ ps) [] within = tt
last_have P sought (p ∷ ps) (w ∷ ws) within = grind (arith, or_with, last_have P sought ps ws within.1)

-- it holds of the one at a place
pub get_have : (P : Event → Type 0) (ws : List Way) (place : ℕ) → AreWaysOf P ws →
    IfSome (slice_get ws place) (IsWayOf P)
get_have P [] place within = tt
get_have P (w ∷ ws) zero within = within.0
get_have P (w ∷ ws) (suc place) within = get_have P ws place within.1

-- it holds of two lists of ways, one after the other
pub append_have : (P : Event → Type 0) (ws vs : List Way) → AreWaysOf P ws → AreWaysOf P vs → AreWaysOf P (ws ++ vs)
append_have P [] vs ws-are vs-are = vs-are
append_have P (w ∷ ws) vs ws-are vs-are = (ws-are.0, append_have P ws vs ws-are.1 vs-are)

-- it holds of many copies of a way of which it holds
pub replicate_have : (P : Event → Type 0) (count : ℕ) (w : Way) → IsWayOf P w → AreWaysOf P (replicate count w)
replicate_have P zero w within = tt
replicate_have P (suc count) w within = (within, replicate_have P count w within)

-- it holds of the ways of what is still in flight
pub in_flight_have : (P : Event → Type 0) (ps : List Passage) (ws : List Way) → AreWaysOf P ws →
    AreWaysOf P (still_in_flight ps ws)
in_flight_have P [] ws within = tt
in_flight_have P (p ∷ ps) [] within = tt
in_flight_have P (p ∷ ps) (w ∷ ws) within = grind (arith, in_flight_have P ps ws within.1)

-- it holds of two lists of holds, one after the other
pub holds_append : (P : Event → Type 0) (hs gs : List UnitHold) → AreHoldsOf P hs → AreHoldsOf P gs →
    AreHoldsOf P (hs ++ gs)
holds_append P [] gs hs-are gs-are = gs-are
holds_append P (h ∷ hs) gs hs-are gs-are = (hs-are.0, holds_append P hs gs hs-are.1 gs-are)

-- it holds of the holds that pass a test
pub holds_filter : (P : Event → Type 0) (test : UnitHold → Bool) (hs : List UnitHold) → AreHoldsOf P hs →
    AreHoldsOf P (filter test hs)
holds_filter P test [] within = tt
holds_filter P test (h ∷ hs) within =
    if_with (AreHoldsOf P) (test h) (within.0, holds_filter P test hs within.1) (holds_filter P test hs within.1)

-- the one before a place is among them
pub journey_have : (P : Event → Type 0) (p : Option Passage) (w : Option Way) → IfSome w (IsWayOf P) →
    IfSome (journey_of p w) (J P)
journey_have P p w within = grind arith

-- it holds of the one that stands one before a place
pub one_before_have : (P : Event → Type 0) (place : ℕ) (ps : List Passage) (ws : List Way) → AreWaysOf P ws
    → IfSome (one_before place ps ws) (J P)
one_before_have P place ps ws within = grind (arith, if_with, journey_have, get_have)

-- and where one is put in another's place, all still are
pub set_have : (P : Event → Type 0) (ws : List Way) (place : ℕ) (w : Way) → AreWaysOf P ws → IsWayOf P w
    → AreWaysOf P (slice_set ws place w)
set_have P [] place w ws-are w-is = tt
set_have P (v ∷ ws) zero w ws-are w-is = (w-is, ws-are.1)
set_have P (v ∷ ws) (suc place) w ws-are w-is = (ws-are.0, set_have P ws place w ws-are.1 w-is)

-- what holds of events holds of them by what it implies
module _ (P Q : Event → Type 0) (implies : (event : Event) → P event → Q event) where
  pub some_imply : {X : Type 0} (at : X → Event) (o : Option X) → IfSome o (λ x. P (at x)) → IfSome o (λ x. Q (at x))
  some_imply at None is = tt
  some_imply at (Some x) is = implies (at x) is

  way_implies : (w : Way) → IsWayOf P w → IsWayOf Q w
  way_implies w is = grind (arith, implies, some_imply)

  -- what implies another property of an event implies it of the events of ways
  pub ways_imply : (ws : List Way) → AreWaysOf P ws → AreWaysOf Q ws
  ways_imply [] are = tt
  ways_imply (w ∷ ws) are = (way_implies w are.0, ways_imply ws are.1)

  -- of those of the holds of units
  pub holds_imply : (hs : List UnitHold) → AreHoldsOf P hs → AreHoldsOf Q hs
  holds_imply [] are = tt
  holds_imply (h ∷ hs) are = (implies h.event are.0, holds_imply hs are.1)

  -- of those of the cycle before
  pub before_implies : (before : Before) → IsBeforeOf P before → IsBeforeOf Q before
  before_implies before is = grind (arith, implies, some_imply)

  -- and of all that are known
  pub known_implies : (known : Known) → AreKnown P known → AreKnown Q known
  known_implies known are = grind (arith, ways_imply, holds_imply, before_implies)
