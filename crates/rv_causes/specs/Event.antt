-- An event of a run, by the event that it waited for last, and why.
use Rattle.std.specs.Prelude.{ℕ, ◌&&◌, ◌||◌, not, Bool, true, false, if◌then◌else◌}
use Rattle.std.specs.Prelude.{List, [], ◌∷◌, Option, None, Some, is_some}
use Rattle.std.specs.Option.{option_or, unwrap_or}
use Rattle.rv_causes.specs.Claims.{cause_if, claim_of, is_so}
use Rattle.rv_causes.specs.declared.{cause.Cause.Cause, event.Event.Event, point.Point.Point}
use Rattle.rv_causes.specs.declared.{point.Reason.Reason, point.Stage.Stage}
use Rattle.rv_causes.specs.declared.cause.Cause.TheVariants as cause
use Rattle.rv_causes.specs.declared.point.Stage.TheVariants as stage

-- what an event waited for last, why fetch began anew with that, if it did, and why it waited; or which event it is again
pub record Wait : Type 0 where
  pub event : Event
  pub anew : Option Reason
  pub cause : Option Cause

-- the beginning of a run
abbrev pub nothing_yet : Event
nothing_yet = record {
  at = record { stage = stage.Begin; number = 0 };
  cycle = 0;
  before = None;
  reason = record { cause = cause.BeforeFirst; address = None };
  refill = None;
}

-- a refill goes on with the fetch and the dispatch of words
abbrev pub goes_on_through : Stage → Bool
goes_on_through stage.Fetch = true
goes_on_through stage.Dispatch = true
goes_on_through _ = false

-- a wait of an issue or a commit may be one, too
abbrev pub ends_with : Stage → Bool
ends_with stage.Issue = true
ends_with stage.Commit = true
ends_with other = goes_on_through other

-- A reason to wait for an event, of one at a point after so many cycles: its cause is named where it is so of the two.
unfoldable pub named_after : Event → Point → ℕ → Reason → Reason
named_after event at cycle reason =
    record reason { cause = cause_if (is_so (claim_of reason.cause) event.at event.cycle at cycle) reason.cause }

-- the refill in which an event waited: that which began with the one that it waited for, or in which this one is
abbrev pub refill_of : Wait → Option Reason
refill_of waited = option_or waited.anew waited.event.refill

-- It goes on past the event, where it began with the one that was waited for, or as long as no instruction was issued
-- and none left the hardware since fetch began anew.
abbrev pub refill_past : Bool → Stage → Wait → Option Reason
refill_past refilled at waited =
    if goes_on_through at && (is_some waited.anew || not refilled) then refill_of waited else None

-- The event of a point after so many cycles, that waited last for another one: on account of the refill, where there is
-- one, or of this cause and address. By the end of its cycle an instruction was issued or left since fetch began anew,
-- or none.
abbrev pub event_after : Bool → Point → ℕ → Option ℕ → Cause → Wait → Event
event_after refilled at cycle address why waited = record {
  at = at;
  cycle = cycle;
  before = Some waited.event.at;
  reason =
      named_after waited.event at cycle
      (unwrap_or (if ends_with at.stage then refill_of waited else None) (record { cause = why; address = address }));
  refill = refill_past refilled at.stage waited;
}

-- it waited for another one, or is that one again
abbrev pub event_by : Bool → Point → ℕ → Option ℕ → Wait → Option Cause → Event
event_by refilled at cycle address waited None = waited.event
event_by refilled at cycle address waited (Some why) = event_after refilled at cycle address why waited

abbrev pub event_from : Bool → Point → ℕ → Option ℕ → Wait → Event
event_from refilled at cycle address waited = event_by refilled at cycle address waited waited.cause

-- what is new of it
abbrev pub new_by : Bool → Point → ℕ → Option ℕ → Wait → Option Cause → List Event
new_by refilled at cycle address waited None = []
new_by refilled at cycle address waited (Some why) = event_after refilled at cycle address why waited ∷ []

abbrev pub new_from : Bool → Point → ℕ → Option ℕ → Wait → List Event
new_from refilled at cycle address waited = new_by refilled at cycle address waited waited.cause

-- one waited for another event, or is that one again
abbrev pub waits : Cause → Event → Wait
waits why event = record { event = event; anew = None; cause = Some why }

abbrev pub again : Event → Wait
again event = record { event = event; anew = None; cause = None }

abbrev pub again_by : Option Event → Option Wait
again_by None = None
again_by (Some event) = Some (again event)

-- fetch began anew with it
abbrev pub anew : Reason → Event → Wait
anew reason event = record { event = event; anew = Some reason; cause = Some reason.cause }

-- After a cycle: whether an instruction was issued or left since fetch began anew. Where one had, the words of a cycle
-- are in a refill only if fetch began anew with them.
abbrev pub refilled_after : Bool → Option Event → Bool
refilled_after refilled None = refilled
refilled_after refilled (Some fetch) = refilled && not (is_some fetch.refill)

-- an event, where something is so
abbrev pub event_if : Bool → Event → List Event
event_if is event = if is then event ∷ [] else []

-- some more events, oldest first, after others, newest first
abbrev pub with_events : List Event → List Event → List Event
with_events [] events = events
with_events (event ∷ more) events = with_events more (event ∷ events)
