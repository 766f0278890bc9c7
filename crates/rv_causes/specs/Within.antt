-- What holds of each event from which others may wait, and that all that is known after some cycles lies within them.
use Rattle.std.specs.Prelude.{ℕ, ◌≤◌, IfSome, List, [], ◌∷◌, length}
use Rattle.rv_hardware.specs.Hardware.{Hardware}
use Rattle.rv_hardware.specs.History.{Moment}
use Rattle.rv_passage.specs.Table.{still_open}
use Rattle.rv_passage.specs.Walk.{walk}
use Rattle.rv_causes.specs.Path.{Known, known_of}
use Rattle.rv_causes.specs.Setting.{last_left}
use Rattle.rv_causes.specs.Walk.{AreInTime}
use Rattle.rv_causes.specs.declared.{before.Before.Before, before.UnitHold.UnitHold, event.Event.Event, way.Way.Way}

-- something holds of the events of an instruction
pub record IsWayOf (P : Event → Type 0) (way : Way) : Type 0 where
  pub fetch : P way.fetch
  pub dispatch : IfSome way.dispatch P
  pub issue : IfSome way.issue P
  pub broadcast : IfSome way.broadcast P

-- of those of several
abbrev pub AreWaysOf : (Event → Type 0) → List Way → Type 0
AreWaysOf P [] = Unit {0}
AreWaysOf P (way ∷ ways) = IsWayOf P way × AreWaysOf P ways

-- of those from which units are held
abbrev pub AreHoldsOf : (Event → Type 0) → List UnitHold → Type 0
AreHoldsOf P [] = Unit {0}
AreHoldsOf P (hold ∷ holds) = P hold.event × AreHoldsOf P holds

-- of the last that left, or the beginning of the run, and of those from which the port is held
pub record IsBeforeOf (P : Event → Type 0) (before : Before) : Type 0 where
  pub left : P (last_left before.left)
  pub port : IfSome before.port (λ hold. P hold.event)
  pub drain : IfSome before.drain (λ drain. P drain.event)

-- of all that an event of the next cycle may wait for
pub record AreKnown (P : Event → Type 0) (known : Known) : Type 0 where
  pub ways : AreWaysOf P known.ways
  pub holds : AreHoldsOf P known.holds
  pub before : IsBeforeOf P known.before

-- an event comes within so many cycles
abbrev pub IsWithin : ℕ → Event → Type 0
IsWithin cycles event = event.cycle ≤ cycles

-- All that is known does. Of all events of the run no older one comes after a newer one, and so none after one that waited for it.
pub record AreWithin (cycles : ℕ) (known : Known) : Type 0 where
  pub live : AreKnown (IsWithin cycles) known
  pub events : AreInTime cycles known.events

-- whatever cycles follow one another, what is known after them comes within them
abbrev pub ComesInTime : Type 0
ComesInTime =
    (first : Hardware) (moments : List Moment) →
    AreWithin (length moments) (known_of first (walk still_open first moments))
