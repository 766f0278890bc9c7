-- What stands when a cycle begins, with what its instructions came to by its end; and what several events of it may
-- have waited for.
use Rattle.std.specs.Prelude.{ℕ, ◌+◌, ◌==◌, ◌&&◌, ◌||◌, not, Bool, false, if◌then◌else◌, List, Option, Some, None}
use Rattle.std.specs.List.{list_any}
use Rattle.std.specs.Option.{option_or}
use Rattle.rv_isa.specs.declared.{values.Values.Values}
use Rattle.rv_passage.specs.Result.{issued_in}
use Rattle.rv_passage.specs.declared.passage.Passage.{Passage}
use Rattle.rv_causes.specs.Before.{is_same_holder, port_cause}
use Rattle.rv_causes.specs.Event.{Wait, event_from, new_from, nothing_yet, waits}
use Rattle.rv_causes.specs.Sought.{is_at, is_end}
use Rattle.rv_causes.specs.declared.{before.Before.Before, before.DrainHold.DrainHold}
use Rattle.rv_causes.specs.declared.{before.Holder.Holder, before.Left.Left}
use Rattle.rv_causes.specs.declared.{before.PortHold.PortHold, before.UnitHold.UnitHold}
use Rattle.rv_causes.specs.declared.{cause.Cause.Cause, event.Event.Event}
use Rattle.rv_causes.specs.declared.{point.Point.Point, point.Stage.Stage, scene.Scene.Scene}
use Rattle.rv_causes.specs.declared.cause.Cause.TheVariants as cause

-- The number of the cycle, and how many there were before it; what the description says; the instructions as they stand
-- at its end; who holds units that are not pipelined; all else that is known when the cycle begins; and whether by its
-- end an instruction was issued or left the hardware since fetch began anew. Their events stand beside it, as they
-- come.
pub record Setting : Type 0 where
  pub number : ℕ
  pub elapsed : ℕ
  pub values : Values
  pub rows : List Passage
  pub holds : List UnitHold
  pub before : Before
  pub refilled : Bool

-- that of a scene
abbrev pub setting_of : Scene → Setting
setting_of scene = record {
  number = scene.number;
  elapsed = scene.elapsed;
  values = scene.values.now;
  rows = scene.rows.now;
  holds = scene.holds.now;
  before = scene.before.now;
  refilled = scene.refilled;
}

-- an instruction is issued in a cycle, or leaves the hardware
abbrev pub ends_refill : ℕ → Passage → Bool
ends_refill number p = is_at number (issued_in p) || is_end p.ending

-- by the end of a cycle with these rows, one was or did since fetch began anew
abbrev pub is_refilled : ℕ → List Passage → Before → Bool
is_refilled number rows before = before.refilled || list_any (ends_refill number) rows

-- the event of the cycle at a point, of an address, by what it waited for
abbrev pub made : Setting → Point → Option ℕ → Wait → Event
made s at address waited = event_from s.refilled at s.elapsed address waited

-- that of an instruction
abbrev pub made_of : Setting → Stage → Passage → Wait → Event
made_of s stage p waited = made s (record { stage = stage; number = p.number }) (Some p.pc) waited

-- the same where it is new
abbrev pub new_of : Setting → Stage → Passage → Wait → List Event
new_of s stage p waited = new_from s.refilled (record { stage = stage; number = p.number }) s.elapsed (Some p.pc) waited

-- the hold of the port, if it ended when the cycle began
abbrev pub hold_ended : Setting → Option PortHold → Option PortHold
hold_ended s None = None
hold_ended s (Some hold) = if hold.until == s.number then Some hold else None

abbrev pub port_ended : Setting → Option PortHold
port_ended s = hold_ended s s.before.port

-- an event that waited for the port
abbrev pub after_hold : Option PortHold → Option Wait
after_hold None = None
after_hold (Some hold) = Some (waits (port_cause hold.holder) hold.event)

-- that came when the port was free again
abbrev pub after_port : Setting → Option Wait
after_port s = after_hold (port_ended s)

-- a hold is that of an instruction, as a load or by its lines
abbrev pub is_hold_of : Holder → ℕ → Option PortHold → Bool
is_hold_of holder number None = false
is_hold_of holder number (Some hold) = is_same_holder hold.holder holder && hold.number == number

-- the instructions that left the hardware in the cycle just before, if some did
abbrev pub left_just_before : Setting → Option Left → Option Left
left_just_before s None = None
left_just_before s (Some left) = if left.cycle + 1 == s.number && not (left.count == 0) then Some left else None

abbrev pub left_before : Setting → Option Left
left_before s = left_just_before s s.before.left

-- an event that waited for the older ones to leave
abbrev pub after_leaving : Option Left → Option Wait
after_leaving None = None
after_leaving (Some left) = Some (waits cause.CommitInOrder left.event)

-- the store that drained until some cycle
abbrev pub after_drain_at : Setting → Cause → ℕ → Option DrainHold → Option Wait
after_drain_at s cause cycle None = None
after_drain_at s cause cycle (Some drain) = if drain.until == cycle then Some (waits cause drain.event) else None

-- one that drained until the cycle just before
abbrev pub after_drain_before : Setting → Option DrainHold → Option Wait
after_drain_before s None = None
after_drain_before s (Some drain) =
    if drain.until + 1 == s.number then Some (waits cause.PortStore drain.event) else None

-- What a FENCE.I waits for that is the oldest: the older stores, which leave the queue after the commit of a cycle,
-- then the port, and before both to be the oldest.
abbrev pub after_stores : Setting → Option Wait
after_stores s =
    option_or (after_drain_before s s.before.drain) (option_or (after_port s) (after_leaving (left_before s)))

-- the event that was the last one to leave, where there is one
abbrev pub last_left : Option Left → Event
last_left None = nothing_yet
last_left (Some left) = left.event

-- an event that waited for that, or that is the first of all
abbrev pub since_left : Cause → Option Left → Wait
since_left why None = waits cause.BeforeFirst nothing_yet
since_left why (Some left) = waits why left.event
