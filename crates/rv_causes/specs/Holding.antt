-- Who holds the port of the cache and the units after a cycle.
use Rattle.std.specs.Prelude.{ℕ, ◌+◌, ◌==◌, ◌&&◌, not, nat_le, nat_lt, Bool, false}
use Rattle.std.specs.Prelude.{if◌then◌else◌, List, [], ◌∷◌, ◌++◌, filter, Option, Some, None}
use Rattle.std.specs.Option.{option_or, unwrap_or}
use Rattle.rv_isa.specs.Instruction.{kind_of_word}
use Rattle.rv_isa.specs.PerKind.{at_kind}
use Rattle.rv_isa.specs.declared.{issues.Issue.Issue, operations.Kind.Kind, values.Values.Values}
use Rattle.rv_hardware.specs.Draining.{is_new_drain}
use Rattle.rv_passage.specs.Result.{issued_in}
use Rattle.rv_passage.specs.declared.passage.Passage.{Passage}
use Rattle.rv_causes.specs.Event.{Wait, again_by, waits}
use Rattle.rv_causes.specs.Leaving.{lines_event}
use Rattle.rv_causes.specs.Lookup.{Journey, first_of}
use Rattle.rv_causes.specs.Setting.{Setting, after_port, last_left, made}
use Rattle.rv_causes.specs.Sought.{is_at}
use Rattle.rv_causes.specs.WaitingStores.{oldest}
use Rattle.rv_causes.specs.declared.{before.DrainHold.DrainHold, before.Facts.Facts}
use Rattle.rv_causes.specs.declared.{before.Holder.Holder, before.PortHold.PortHold}
use Rattle.rv_causes.specs.declared.{before.UnitHold.UnitHold, event.Event.Event, leaving.Leaving.Leaving, way.Way.Way}
use Rattle.rv_causes.specs.Way.{issued_by}
use Rattle.rv_causes.specs.declared.before.Holder.TheVariants as holder
use Rattle.rv_causes.specs.declared.cause.Cause.TheVariants as cause
use Rattle.rv_causes.specs.declared.point.Stage.TheVariants as stage
use Rattle.rv_causes.specs.declared.sought.Sought.TheVariants as sought

-- the port was taken in the cycle: it is held beyond it, and was not so before
abbrev pub is_taken : Setting → Facts → Bool
is_taken s facts = nat_lt s.number facts.port_free && not (facts.port_free == s.before.facts.port_free)

-- a drain is under way after the cycle that was not before
abbrev pub is_begun : Setting → Facts → Bool
is_begun s facts = is_new_drain s.before.facts.drain_end facts.drain_end

-- the store that begins to drain retired in the cycle, where none waited before
abbrev pub at_its_commit : Setting → Leaving → Option Wait
at_its_commit s leaving = if s.before.facts.is_store_waiting then None else again_by leaving.store

-- what the store that begins to drain waited for
abbrev pub drain_wait : Setting → Leaving → Wait
drain_wait s leaving =
    unwrap_or (option_or (at_its_commit s leaving) (after_port s)) (waits cause.Other (last_left s.before.left))

-- The event by which it begins to drain: that of its retirement in the cycle, or a new one, of the address of the
-- oldest that waited before.
abbrev pub drain_event : Setting → Leaving → Event
drain_event s leaving =
    made s (record { stage = stage.Drain; number = s.elapsed }) (oldest s.before.waiting) (drain_wait s leaving)

-- the drain that begins in the cycle takes the port
abbrev pub drains : Setting → Facts → Bool
drains s facts = is_taken s facts && is_begun s facts

abbrev pub drain_begun : Setting → Leaving → Facts → Option DrainHold
drain_begun s leaving facts =
    if drains s facts then Some (record { until = facts.port_free; event = drain_event s leaving }) else None

-- the drain that takes the port so, if one does
abbrev pub drain_by : Holder → PortHold → Option DrainHold
drain_by holder.Drain hold = Some (record { until = hold.until; event = hold.event })
drain_by holder.Load hold = None
drain_by holder.Lines hold = None

abbrev pub drain_of : Option PortHold → Option DrainHold
drain_of None = None
drain_of (Some hold) = drain_by hold.holder hold

-- a load holds the port from its issue on
abbrev pub load_hold : ℕ → Option Journey → Option PortHold
load_hold until None = None
load_hold until (Some load) =
    Some (record { until = until; event = issued_by load.way; holder = holder.Load; number = load.row.number })

-- a FENCE.I writes lines back
abbrev pub lines_hold : Setting → Leaving → ℕ → Option Journey → Option PortHold
lines_hold s leaving until None = None
lines_hold s leaving until (Some head) =
    Some (record {
      until = until;
      event = lines_event s leaving head.row head.way;
      holder = holder.Lines;
      number = head.row.number;
    })

-- who takes the port in the cycle, if it is taken: a drain, a load, or the lines of a FENCE.I. It is on account of no
-- event where a load takes it that early recovery squashes in the cycle of its issue, which no row shows.
abbrev pub taken_by : Setting → List Way → Leaving → Facts → Option PortHold
taken_by s ways leaving facts =
    if is_begun s facts
    then Some (record { until = facts.port_free; event = drain_event s leaving; holder = holder.Drain; number = 0 })
    else option_or (load_hold facts.port_free (first_of (sought.LoadUntil s.number facts.port_free) s.rows ways))
    (lines_hold s leaving facts.port_free (first_of sought.FenceI s.rows ways))

abbrev pub port_taken : Setting → List Way → Leaving → Facts → Option PortHold
port_taken s ways leaving facts = if is_taken s facts then taken_by s ways leaving facts else None

-- a hold goes on after the cycle
abbrev pub goes_beyond : ℕ → UnitHold → Bool
goes_beyond number hold = nat_lt number hold.until

-- an instruction was issued to a unit of a kind that is not pipelined
abbrev pub hold_of_kind : Values → Passage → Way → Issue → Option Kind → List UnitHold
hold_of_kind values p w issue None = []
hold_of_kind values p w issue (Some kind) =
    if (at_kind kind values.kinds).pipelined then []
    else record { kind = kind; until = issue.cycle + issue.cost; number = p.number; event = issued_by w } ∷ []

-- in the cycle
unfoldable pub hold_of : ℕ → Values → Passage → Way → Option Issue → List UnitHold
hold_of number values p w None = []
hold_of number values p w (Some issue) =
    if issue.cycle == number then hold_of_kind values p w issue (kind_of_word p.instruction) else []

-- an instruction is issued in the cycle, and its unit is not pipelined
abbrev pub is_held : Values → Option Kind → Bool
is_held values None = false
is_held values (Some kind) = not (at_kind kind values.kinds).pipelined

abbrev pub begins_hold : ℕ → Values → Passage → Bool
begins_hold number values p = is_at number (issued_in p) && is_held values (kind_of_word p.instruction)

-- those that begin in the cycle
abbrev pub new_holds : ℕ → Values → List Passage → List Way → List UnitHold
new_holds number values [] ways = []
new_holds number values (p ∷ ps) [] = []
new_holds number values (p ∷ ps) (w ∷ ws) = hold_of number values p w p.issue ++ new_holds number values ps ws

-- who holds units after a cycle of a number with these rows, of those that did before it
abbrev pub holds_now : ℕ → Values → List Passage → List Way → List UnitHold → List UnitHold
holds_now number values rows ways holds = filter (goes_beyond number) holds ++ new_holds number values rows ways

-- the event from which the port is held, but for a load's, which is its issue
abbrev pub taken_event : Holder → Event → List Event
taken_event holder.Drain event = event ∷ []
taken_event holder.Load event = []
taken_event holder.Lines event = event ∷ []

abbrev pub port_event : Option PortHold → List Event
port_event None = []
port_event (Some hold) = taken_event hold.holder hold.event

-- those holds that an event of a later cycle may wait for
abbrev pub port_kept : ℕ → Option PortHold → Option PortHold
port_kept number None = None
port_kept number (Some hold) = if nat_lt number hold.until then Some hold else None

abbrev pub drain_kept : ℕ → Option DrainHold → Option DrainHold
drain_kept number None = None
drain_kept number (Some drain) = if nat_le number drain.until then Some drain else None
