-- What holds of events by the list of all so far, where new ones are put before it: of those that were known, and of the new ones.
use Rattle.std.proofs.Common.{◌≡◌, ℕ, List, [], ◌∷◌, ◌++◌, Option, Some, None, refl, arith}
use Rattle.std.specs.Prelude.{Bool, true, false, IfSome}
use Rattle.std.specs.Option.{option_to_list}
use Rattle.rv_causes.specs.Causes.{IsSo}
use Rattle.rv_causes.specs.Claims.{cause_if, claim_of, is_so}
use Rattle.rv_causes.specs.Event.{Wait, event_after, event_by, event_from, named_after, new_by, new_from, with_events}
use Rattle.rv_causes.specs.declared.{cause.Cause.Cause, event.Event.Event, point.Point.Point, point.Reason.Reason}

-- a new event comes after so many cycles, and waited for one of which something holds, as its cause says
pub record IsNew (P : Event → Type 0) (cycles : ℕ) (event : Event) : Type 0 where
  pub of : Event
  pub has : P of
  pub cycle : event.cycle ≡ cycles
  pub before : event.before ≡ Some of.at
  pub so : IsSo of.at of.cycle event

-- Something holds of a new event by the list that it begins, where it held of the one that it waited for by the list
-- before; and of all others still.
pub record IsKept (cycles : ℕ) (P : List Event → Event → Type 0) : Type 0 where
  pub newest : (all : List Event) (event : Event) → IsNew (P all) cycles event → P (event ∷ all) event
  pub others : (all : List Event) (event other : Event) → IsNew (P all) cycles event → P all other →
      P (event ∷ all) other

-- of several events
abbrev pub AllOf : (Event → Type 0) → List Event → Type 0
AllOf P [] = Unit {0}
AllOf P (event ∷ events) = P event × AllOf P events

-- what holds of all of two lists holds of those of the first
pub all_front : (P : Event → Type 0) (es fs : List Event) → AllOf P (es ++ fs) → AllOf P es
all_front P [] fs are = tt
all_front P (e ∷ es) fs are = (are.0, all_front P es fs are.1)

-- and of those of the second
pub all_back : (P : Event → Type 0) (es fs : List Event) → AllOf P (es ++ fs) → AllOf P fs
all_back P [] fs are = are
all_back P (e ∷ es) fs are = all_back P es fs are.1

-- what holds of all of each of two lists holds of both together
pub all_both : (P : Event → Type 0) (es fs : List Event) → AllOf P es → AllOf P fs → AllOf P (es ++ fs)
all_both P [] fs es-are fs-are = fs-are
all_both P (e ∷ es) fs es-are fs-are = (es-are.0, all_both P es fs es-are.1 fs-are)

-- what holds of an event, if there is one, holds of the list of it
pub all_some : (P : Event → Type 0) (o : Option Event) → IfSome o P → AllOf P (option_to_list o)
all_some P None is = tt
all_some P (Some event) is = (is, tt)

-- and what holds of the list of it holds of the event
pub some_all : (P : Event → Type 0) (o : Option Event) → AllOf P (option_to_list o) → IfSome o P
some_all P None are = tt
some_all P (Some event) are = are.0

-- what implies another property of an event implies it of all of a list
pub all_imply : (P Q : Event → Type 0) → ((event : Event) → P event → Q event) → (es : List Event) → AllOf P es →
    AllOf Q es
all_imply P Q implies [] are = tt
all_imply P Q implies (e ∷ es) are = (implies e are.0, all_imply P Q implies es are.1)

-- and of a new one
pub new_implies : (P Q : Event → Type 0) (cycles : ℕ) → ((event : Event) → P event → Q event) → (event : Event) →
    IsNew P cycles event
    → IsNew Q cycles event
new_implies P Q cycles implies event is =
    record { of = is.of; has = implies is.of is.has; cycle = is.cycle; before = is.before; so = is.so }

-- some and then others come before all
pub with_both : (es fs all : List Event) → with_events (es ++ fs) all ≡ with_events fs (with_events es all)
with_both [] fs all = refl
with_both (e ∷ es) fs all = with_both es fs (e ∷ all)

-- where a cause is not so of two events, another one is named, which says nothing of them
named_if : (is : Bool) (why : Cause) (waited : Point) (first : ℕ) (waits : Point) (second : ℕ)
    → is_so (claim_of why) waited first waits second ≡ is →
    is_so (claim_of (cause_if is why)) waited first waits second ≡ true
named_if true why waited first waits second is = is
named_if false why waited first waits second is = refl

named_so : (event : Event) (at : Point) (cycle : ℕ) (reason : Reason)
    → is_so (claim_of (named_after event at cycle reason).cause) event.at event.cycle at cycle ≡ true
unfolding named_after
named_so event at cycle reason = grind (arith, named_if)

-- an event that was made by a wait is new
pub made_new : (P : Event → Type 0) (refilled : Bool) (cycles : ℕ) (at : Point) (address : Option ℕ)
    (why : Cause) (waited : Wait)
    → P waited.event → IsNew P cycles (event_after refilled at cycles address why waited)
made_new P refilled cycles at address why waited is = grind (arith, named_so)

module _ (cycles : ℕ) (P : List Event → Event → Type 0) (kept : IsKept cycles P) where
  new_still : (all : List Event) (event other : Event) → IsNew (P all) cycles event → IsNew (P all) cycles other
      → IsNew (P (event ∷ all)) cycles other
  new_still all event other new is = grind arith

  all_still : (all : List Event) (event : Event) (es : List Event) → IsNew (P all) cycles event →
      AllOf (IsNew (P all) cycles) es
      → AllOf (IsNew (P (event ∷ all)) cycles) es
  all_still all event [] new are = tt
  all_still all event (e ∷ es) new are = (new_still all event e new are.0, all_still all event es new are.1)

  -- what held of one that was known still does
  pub known_still : (all es : List Event) → AllOf (IsNew (P all) cycles) es → (event : Event) → P all event →
      P (with_events es all) event
  known_still all [] are event is = is
  known_still all (e ∷ es) are event is =
      known_still (e ∷ all) es (all_still all e es are.0 are.1) event (kept.others all e event are.0 is)

  -- and holds of the new ones
  pub all_new_have : (all es : List Event) → AllOf (IsNew (P all) cycles) es → AllOf (P (with_events es all)) es
  all_new_have all [] are = tt
  all_new_have all (e ∷ es) are =
      let rest = all_still all e es are.0 are.1 in
      (known_still (e ∷ all) es rest e (kept.newest all e are.0), all_new_have (e ∷ all) es rest)

  -- of one that waited for a known one, or is that one again
  by_have : (all : List Event) (refilled : Bool) (at : Point) (address : Option ℕ) (waited : Wait)
      (why : Option Cause) → P all waited.event
      → P (with_events (new_by refilled at cycles address waited why) all)
      (event_by refilled at cycles address waited why)
  by_have all refilled at address waited why is = grind (arith, made_new)

  by_still : (all : List Event) (refilled : Bool) (at : Point) (address : Option ℕ) (waited : Wait)
      (why : Option Cause) → P all waited.event
      → (other : Event) → P all other → P (with_events (new_by refilled at cycles address waited why) all) other
  by_still all refilled at address waited why is other held = grind (arith, made_new)

  -- a property of all events so far and one holds of a new event after the one that it waited for
  pub wait_has : (all : List Event) (refilled : Bool) (at : Point) (address : Option ℕ) (waited : Wait) →
      P all waited.event
      → P (with_events (new_from refilled at cycles address waited) all) (event_from refilled at cycles address waited)
  wait_has all refilled at address waited is = by_have all refilled at address waited waited.cause is

  -- and still holds of each other one, with the new event
  pub wait_still : (all : List Event) (refilled : Bool) (at : Point) (address : Option ℕ) (waited : Wait) →
      P all waited.event
      → (other : Event) → P all other → P (with_events (new_from refilled at cycles address waited) all) other
  wait_still all refilled at address waited is = by_still all refilled at address waited waited.cause is
