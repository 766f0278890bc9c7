-- The events by which instructions are dispatched, and what a cycle makes of the events of those that were in flight before it.
use Rattle.std.specs.Prelude.{ℕ, zero, suc, ◌+◌, ◌-◌, ◌==◌, ◌&&◌, ◌||◌, nat_le, Bool, false}
use Rattle.std.specs.Prelude.{if◌then◌else◌, List, [], ◌++◌, length, count_by, Option}
use Rattle.std.specs.Prelude.{Some, None, slice_get, slice_set}
use Rattle.std.specs.Option.{option_or, unwrap_or}
use Rattle.rv_isa.specs.Instruction.{kind_of_word}
use Rattle.rv_isa.specs.PerKind.{at_kind}
use Rattle.rv_isa.specs.declared.operations.Kind.{Kind}
use Rattle.rv_passage.specs.Result.{issued_in}
use Rattle.rv_passage.specs.declared.passage.Passage.{Passage}
use Rattle.rv_causes.specs.Event.{Wait, again, again_by, waits}
use Rattle.rv_causes.specs.Issuing.{broadcast_wait, issue_wait}
use Rattle.rv_causes.specs.Lookup.{Journey, first_of, one_at, one_before}
use Rattle.rv_causes.specs.Setting.{Setting, after_drain_at, made_of, new_of}
use Rattle.rv_causes.specs.Sought.{is_at, is_just_before, is_sought}
use Rattle.rv_causes.specs.Way.{dispatched_by, issued_by, with_stage}
use Rattle.rv_causes.specs.declared.{event.Event.Event, leaving.Leaving.Leaving, point.Stage.Stage, way.Way.Way}
use Rattle.rv_causes.specs.declared.cause.Cause.TheVariants as cause
use Rattle.rv_causes.specs.declared.point.Stage.TheVariants as stage
use Rattle.rv_causes.specs.declared.sought.Sought.TheVariants as sought

-- as many stood before a word as the reorder buffer holds: the first to leave made room
abbrev pub room_by_leaving : Setting → Leaving → ℕ → Option Wait
room_by_leaving s leaving place = if place == s.values.rob then again_by leaving.first else None

-- the event by which an instruction was issued that is looked for
abbrev pub issue_of : Option Journey → Option Wait
issue_of None = None
issue_of (Some journey) = Some (again (issued_by journey.way))

-- its stations were full then: the first to be issued made room
abbrev pub room_by_issue : Setting → List Way → Option Kind → Option Wait
room_by_issue s ways None = None
room_by_issue s ways (Some kind) =
    if count_by (is_sought (sought.Stationed kind s.number)) s.rows == (at_kind kind s.values.kinds).stations
    then issue_of (first_of (sought.IssuedIn kind s.number) s.rows ways)
    else None

-- the store queue was full then: the store that had drained made room
abbrev pub room_by_drain : Setting → Option Wait
room_by_drain s =
    if s.before.facts.stores == s.values.store_queue
    then after_drain_at s cause.StoreQueueFull s.number s.before.drain else None

-- what the word at a place waited for that did not come after another one, of these the first
abbrev pub room_for : Setting → List Way → Leaving → ℕ → Passage → Option Wait
room_for s ways leaving place p =
    option_or (room_by_leaving s leaving place)
    (option_or (room_by_issue s ways (kind_of_word p.instruction)) (room_by_drain s))

-- one was dispatched in the cycle before
abbrev pub was_dispatched : ℕ → Option Passage → Bool
was_dispatched number None = false
was_dispatched number (Some p) = is_just_before number p.dispatched

-- the one was that stands as many before a place as the dispatch is wide
abbrev pub fills_dispatch : Setting → ℕ → Bool
fills_dispatch s place =
    if nat_le s.values.dispatch_width place
    then was_dispatched s.number (slice_get s.rows (place - s.values.dispatch_width)) else false

-- so was the last one before the place: all between them filled the width
abbrev pub after_width : Setting → ℕ → Journey → Option Wait
after_width s place last =
    if is_just_before s.number last.row.dispatched && fills_dispatch s place
    then Some (waits cause.DispatchWidth (dispatched_by last.way))
    else None

-- it goes with the one before it, or waited for its width
abbrev pub after_previous : Setting → ℕ → Option Journey → Option Wait
after_previous s place None = None
after_previous s place (Some last) =
    if is_at s.number last.row.dispatched then Some (again (dispatched_by last.way)) else after_width s place last

-- what the word at a place waited for that is dispatched
abbrev pub dispatch_wait : Setting → List Way → Leaving → Passage → ℕ → Way → Wait
dispatch_wait s ways leaving p place w =
    if p.fetched + 1 == s.number then waits cause.FrontEnd w.fetch
    else unwrap_or (option_or (after_previous s place (one_before place s.rows ways)) (room_for s ways leaving place p))
    (waits cause.Other w.fetch)

-- what an instruction comes to, and what that waited for
pub record Move : Type 0 where
  pub stage : Stage
  pub waited : Wait

-- it comes to something in a cycle
abbrev pub advances : ℕ → Passage → Bool
advances number p = is_at number p.dispatched || (is_at number (issued_in p) || is_at number p.broadcast)

-- the one at a place does
abbrev pub advances_by : ℕ → Option Passage → Bool
advances_by number None = false
advances_by number (Some p) = advances number p

abbrev pub advances_at : Setting → ℕ → Bool
advances_at s place = advances_by s.number (slice_get s.rows place)

-- what comes of an instruction in the cycle: it is dispatched, issued or broadcast, and waited for this; or nothing of that
abbrev pub advance_of : Setting → Leaving → List Way → ℕ → Passage → Way → Option Move
advance_of s leaving ways place p w =
    if is_at s.number p.dispatched
    then Some (record { stage = stage.Dispatch; waited = dispatch_wait s ways leaving p place w })
    else (if is_at s.number (issued_in p) then Some (record { stage = stage.Issue; waited = issue_wait s ways p w })
    else (if is_at s.number p.broadcast
    then Some (record { stage = stage.Broadcast; waited = broadcast_wait s ways p w })
    else None))

-- it has the event, and that is new or was known
abbrev pub advanced : Setting → ℕ → Journey → Option Move → List Way → List Way
advanced s place j None ways = ways
advanced s place j (Some it) ways =
    slice_set ways place (with_stage it.stage (made_of s it.stage j.row it.waited) j.way)

abbrev pub new_advanced : Setting → Passage → Option Move → List Event
new_advanced s p None = []
new_advanced s p (Some it) = new_of s it.stage p it.waited

-- the one at a place, where the events of all stand so
abbrev pub moved_by : Setting → Leaving → ℕ → Option Journey → List Way → List Way
moved_by s leaving place None ways = ways
moved_by s leaving place (Some j) ways = advanced s place j (advance_of s leaving ways place j.row j.way) ways

abbrev pub moved_at : Setting → Leaving → ℕ → List Way → List Way
moved_at s leaving place ways = moved_by s leaving place (one_at place s.rows ways) ways

abbrev pub new_at_one : Setting → Leaving → ℕ → Option Journey → List Way → List Event
new_at_one s leaving place None ways = []
new_at_one s leaving place (Some j) ways = new_advanced s j.row (advance_of s leaving ways place j.row j.way)

abbrev pub new_at : Setting → Leaving → ℕ → List Way → List Event
new_at s leaving place ways = new_at_one s leaving place (one_at place s.rows ways) ways

-- of the first so many, the oldest first
abbrev pub moved_up_to : Setting → Leaving → ℕ → List Way → List Way
moved_up_to s leaving zero ways = ways
moved_up_to s leaving (suc place) ways = moved_at s leaving place (moved_up_to s leaving place ways)

-- the new events of these
abbrev pub new_up_to : Setting → Leaving → ℕ → List Way → List Event
new_up_to s leaving zero ways = []
new_up_to s leaving (suc place) ways =
    new_up_to s leaving place ways ++ new_at s leaving place (moved_up_to s leaving place ways)

-- of all that were in flight before it
abbrev pub all_moved : Setting → Leaving → List Way → List Way
all_moved s leaving ways = moved_up_to s leaving (length ways) ways

abbrev pub all_new : Setting → Leaving → List Way → List Event
all_new s leaving ways = new_up_to s leaving (length ways) ways
