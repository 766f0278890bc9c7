-- What is new of an event that waited, and an instruction of which nothing comes in a cycle.
use Rattle.std.proofs.Common.{◌≡◌, ◌∙◌, ℕ, false, List, [], Option, None, Some, get_or, refl, ap, sym, arith}
use Rattle.std.specs.Prelude.{Bool, if◌then◌else◌, ◌||◌, is_some, slice_get}
use Rattle.std.proofs.lemmas.Option.{get_or_from_slice_get, none-some}
use Rattle.rv_passage.specs.declared.passage.Passage.{Passage}
use Rattle.rv_causes.specs.Event.{Wait, event_by, event_from, event_if, new_by, new_from}
use Rattle.rv_causes.specs.Lookup.{Journey, journey_of, one_at}
use Rattle.rv_causes.specs.Moving.{Move, advance_of, advanced, advances, advances_at, advances_by, moved_at, moved_by}
use Rattle.rv_causes.specs.Moving.{new_advanced, new_at, new_at_one}
use Rattle.rv_causes.specs.Setting.{Setting}
use Rattle.rv_causes.specs.declared.{cause.Cause.Cause, leaving.Leaving.Leaving, point.Point.Point, way.Way.Way}

new-by : (refilled : Bool) (at : Point) (cycle : ℕ) (address : Option ℕ) (waited : Wait) (why : Option Cause)
    → event_if (is_some why) (event_by refilled at cycle address waited why)
    ≡ new_by refilled at cycle address waited why
new-by refilled at cycle address waited None = refl
new-by refilled at cycle address waited (Some why) = refl

-- an event is new where it has a cause
pub new_if : (refilled : Bool) (at : Point) (cycle : ℕ) (address : Option ℕ) (waited : Wait)
    → event_if (is_some waited.cause) (event_from refilled at cycle address waited)
    ≡ new_from refilled at cycle address waited
new_if refilled at cycle address waited = new-by refilled at cycle address waited waited.cause

none-by : (dispatched issued broadcast : Bool) (x y z : Move) → (dispatched || (issued || broadcast)) ≡ false
    → (if dispatched then Some x else (if issued then Some y else (if broadcast then Some z else None))) ≡ None
none-by dispatched issued broadcast x y z idle = grind arith

idle-none : (s : Setting) (leaving : Leaving) (place : ℕ) (ways : List Way) (p : Passage) (w : Way) →
    advances s.number p ≡ false
    → advance_of s leaving ways place p w ≡ None
idle-none s leaving place ways p w idle = grind (arith, none-by)

moved-idle : (s : Setting) (leaving : Leaving) (place : ℕ) (ways : List Way) (row : Option Passage) (way : Option Way)
    → advances_by s.number row ≡ false → moved_by s leaving place (journey_of row way) ways ≡ ways
moved-idle s leaving place ways row way idle = grind (arith, idle-none)

new-idle : (s : Setting) (leaving : Leaving) (place : ℕ) (ways : List Way) (row : Option Passage) (way : Option Way)
    → advances_by s.number row ≡ false → new_at_one s leaving place (journey_of row way) ways ≡ []
new-idle s leaving place ways row way idle = grind (arith, idle-none)

-- one of which nothing comes keeps its events
pub idle_moved : (s : Setting) (leaving : Leaving) (place : ℕ) (ways : List Way) → advances_at s place ≡ false
    → moved_at s leaving place ways ≡ ways
idle_moved s leaving place ways idle = moved-idle s leaving place ways (slice_get s.rows place)
    (slice_get ways place) idle

-- and nothing is new
pub idle_new : (s : Setting) (leaving : Leaving) (place : ℕ) (ways : List Way) → advances_at s place ≡ false
    → new_at s leaving place ways ≡ []
idle_new s leaving place ways idle = new-idle s leaving place ways (slice_get s.rows place) (slice_get ways place) idle

-- where there is no instruction at a place, nothing is new
pub none_at : (s : Setting) (leaving : Leaving) (place : ℕ) (ways : List Way) → None ≡ one_at place s.rows ways
    → new_at s leaving place ways ≡ []
none_at s leaving place ways none = λ i. new_at_one s leaving place (sym none i) ways

way-of : (row : Option Passage) (way : Option Way) (j : Journey) → Some j ≡ journey_of row way → way ≡ Some j.way
way-of row way j is = grind (arith, none-some)

-- an instruction that stands at a place has its events there
pub way_at : (place : ℕ) (rows : List Passage) (ways : List Way) (j : Journey) → Some j ≡ one_at place rows ways
    → (w : Way) → get_or ways place w ≡ j.way
way_at place rows ways j found w =
    get_or_from_slice_get ways place j.way w (way-of (slice_get rows place) (slice_get ways place) j found)

module _ (s : Setting) (leaving : Leaving) (place : ℕ) (ways : List Way) (j : Journey) (found : Some j
    ≡ one_at place s.rows ways)
    (p : Passage) (w : Way) (row : p ≡ j.row) (way : w ≡ j.way) where
  comes : (o : Option Move) → o ≡ advance_of s leaving ways place p w → o ≡ advance_of s leaving ways place j.row j.way
  comes o is = is ∙ (λ i. advance_of s leaving ways place (row i) (way i))

  -- what comes of it
  pub moved_here : (o : Option Move) → o ≡ advance_of s leaving ways place p w → moved_at s leaving place ways
      ≡ advanced s place j o ways
  moved_here o is = grind (arith, comes)

  -- what is new at a place is what its instruction's advance brings
  pub new_here : (o : Option Move) → o ≡ advance_of s leaving ways place p w → new_at s leaving place ways
      ≡ new_advanced s j.row o
  new_here o is = (λ i. new_at_one s leaving place (sym found i) ways) ∙ ap (new_advanced s j.row) (sym (comes o is))
