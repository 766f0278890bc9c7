-- The event by which the words of a cycle are fetched.
use Rattle.std.specs.Prelude.{ℕ, ◌+◌, ◌-◌, ◌%◌, ◌^◌, ◌==◌, ◌&&◌, nat_le, Bool}
use Rattle.std.specs.Prelude.{false, if◌then◌else◌, List, [], length, Option, Some}
use Rattle.std.specs.Prelude.{None, slice_get}
use Rattle.std.specs.Option.{option_or, unwrap_or}
use Rattle.rv_hardware.specs.Broadcast.{mends_early}
use Rattle.rv_passage.specs.Prediction.{differ}
use Rattle.rv_passage.specs.declared.passage.Passage.{Passage}
use Rattle.rv_rob.specs.ReorderBuffer.{youngest}
use Rattle.rv_rob.specs.declared.entry.Entry.{Entry}
use Rattle.rv_causes.specs.Event.{Wait, again, anew, waits}
use Rattle.rv_causes.specs.Leaving.{interrupt_event}
use Rattle.rv_causes.specs.Lookup.{Journey, last_of, one_before}
use Rattle.rv_causes.specs.Reading.{HardwareRead}
use Rattle.rv_causes.specs.Setting.{Setting, made_of, new_of, since_left}
use Rattle.rv_causes.specs.Sought.{is_at}
use Rattle.rv_causes.specs.declared.{event.Event.Event, point.Reason.Reason, leaving.Leaving.Leaving, way.Way.Way}
use Rattle.rv_causes.specs.Way.{broadcast_by, dispatched_by}
use Rattle.rv_causes.specs.declared.cause.Cause.TheVariants as cause
use Rattle.rv_causes.specs.declared.point.Stage.TheVariants as stage
use Rattle.rv_causes.specs.declared.sought.Sought.TheVariants as sought

-- fetch began anew with an event
abbrev pub anew_by : Option Reason → Option Event → Option Wait
anew_by None event = None
anew_by (Some reason) None = None
anew_by (Some reason) (Some event) = Some (anew reason event)

-- it began anew at the last that left
abbrev pub after_flush : Leaving → Option Wait
after_flush leaving = anew_by leaving.refill leaving.last

-- the youngest instruction was broadcast in the cycle, and its prediction put right
abbrev pub is_mended : Setting → Passage → Option Entry → Bool
is_mended s p None = false
is_mended s p (Some entry) = is_at s.number p.broadcast && differ p.predicted (Some entry.predicted_next)

abbrev pub mend_of : Setting → Option Entry → Option Journey → Option Wait
mend_of s entry None = None
mend_of s entry (Some journey) =
    if is_mended s journey.row entry
    then Some (anew (record { cause = cause.RefillPrediction; address = Some journey.row.pc })
    (broadcast_by journey.way))
    else None

-- it began anew there
abbrev pub after_mend : Setting → List Way → HardwareRead → Option Wait
after_mend s ways after =
    if mends_early s.values.recovery
    then mend_of s (youngest after.rob.entries) (last_of sought.Entry s.rows ways) else None

-- at an interrupt on account of the first word of its handler
abbrev pub handler_wait : Event → Passage → Wait
handler_wait interrupt first = anew (record { cause = cause.RefillInterrupt; address = Some first.pc }) interrupt

-- at the one of the cycle
abbrev pub handled : Setting → Passage → Wait
handled s first = handler_wait (interrupt_event s) first

-- fetch began anew, if it did
abbrev pub after_redirection : Setting → List Way → Bool → Leaving → HardwareRead → Passage → Option Wait
after_redirection s ways interrupted leaving after first =
    if interrupted then Some (handled s first)
    else option_or (after_flush leaving) (after_mend s ways after)

-- the last word of the cycle before was predicted to lead elsewhere
abbrev pub is_jump : Passage → Bool
is_jump p = differ p.predicted (Some ((p.pc + 4) % 2 ^ 32))

-- one was fetched in the cycle before
abbrev pub was_fetched : ℕ → Option Passage → Bool
was_fetched number None = false
was_fetched number (Some p) = p.fetched + 1 == number

-- the one was that stands as many before the first word of the cycle as the fetch is wide
abbrev pub fills_fetch : Setting → List Way → Bool
fills_fetch s ways =
    if nat_le s.values.fetch_width (length ways)
    then was_fetched s.number (slice_get s.rows (length ways - s.values.fetch_width)) else false

-- what ended the fetches of the cycle before, but for the buffer: their width, or a jump
abbrev pub after_word : Setting → List Way → Journey → Option Wait
after_word s ways last =
    if last.row.fetched + 1 == s.number
    then (
    if fills_fetch s ways then Some (waits cause.FetchWidth last.way.fetch)
    else (if is_jump last.row then Some (waits cause.FetchJump last.way.fetch) else None))
    else None

-- a word left the buffer in the cycle
abbrev pub room_of : Setting → Option Passage → Option Way → Option Wait
room_of s None way = None
room_of s (Some p) None = None
room_of s (Some p) (Some way) = if is_at s.number p.dispatched then Some (again (dispatched_by way)) else None

-- the buffer was full until the word left it that stands as many before as it holds
abbrev pub after_room : Setting → List Way → Option Wait
after_room s ways =
    if nat_le s.values.fetch_buffer (length ways)
    then room_of s (slice_get s.rows (length ways - s.values.fetch_buffer))
    (slice_get ways (length ways - s.values.fetch_buffer))
    else None

-- the fetch goes on after the last word, or where there is none, after the last that left
abbrev pub goes_on : Setting → List Way → Option Journey → Wait
goes_on s ways None = since_left cause.Other s.before.left
goes_on s ways (Some last) =
    unwrap_or (option_or (after_word s ways last) (after_room s ways)) (waits cause.Other last.way.fetch)

-- What words waited for that are fetched in the cycle, after those that were in flight before it: fetch began anew, or goes on.
abbrev pub fetch_wait : Setting → List Way → Bool → Leaving → HardwareRead → Passage → Wait
fetch_wait s ways interrupted leaving after first =
    unwrap_or (after_redirection s ways interrupted leaving after first)
    (goes_on s ways (one_before (length ways) s.rows ways))

-- the event of the first word of a cycle, by what it waited for
abbrev pub fetch_of : Setting → Passage → Wait → Event
fetch_of s first waited = made_of s stage.Fetch first waited

-- the same where it is new
abbrev pub new_fetch_of : Setting → Passage → Wait → List Event
new_fetch_of s first waited = new_of s stage.Fetch first waited

-- the event by which they are fetched, if some are: that of the first
abbrev pub fetched_by : Setting → List Way → Bool → Leaving → HardwareRead → Option Passage → Option Event
fetched_by s ways interrupted leaving after None = None
fetched_by s ways interrupted leaving after (Some first) =
    Some (fetch_of s first (fetch_wait s ways interrupted leaving after first))

abbrev pub fetch_event : Setting → List Way → Bool → Leaving → HardwareRead → Option Event
fetch_event s ways interrupted leaving after =
    fetched_by s ways interrupted leaving after (slice_get s.rows (length ways))

-- it is new, or was known
abbrev pub new_fetched : Setting → List Way → Bool → Leaving → HardwareRead → Option Passage → List Event
new_fetched s ways interrupted leaving after None = []
new_fetched s ways interrupted leaving after (Some first) =
    new_fetch_of s first (fetch_wait s ways interrupted leaving after first)

abbrev pub new_fetch : Setting → List Way → Bool → Leaving → HardwareRead → List Event
new_fetch s ways interrupted leaving after =
    new_fetched s ways interrupted leaving after (slice_get s.rows (length ways))
