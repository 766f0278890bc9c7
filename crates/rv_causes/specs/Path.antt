-- The path that leads to each event of a run: what is known of it between two cycles, and what a cycle makes of that.
use Rattle.std.specs.Prelude.{◌≡◌, ℕ, ◌-◌, ◌≤◌, Bool, true, if◌then◌else◌, List, [], ◌∷◌}
use Rattle.std.specs.Prelude.{◌++◌, drop, length, replicate, Option, Some, None, is_some}
use Rattle.std.specs.List.{fold}
use Rattle.std.specs.Option.{option_or}
use Rattle.rv_hardware.specs.Hardware.{Hardware}
use Rattle.rv_hardware.specs.History.{Moment}
use Rattle.rv_hardware.specs.declared.step.Step.{Step}
use Rattle.rv_passage.specs.Passage.{is_in_flight}
use Rattle.rv_passage.specs.Table.{still_open, table_at}
use Rattle.rv_passage.specs.Walk.{FollowedCycle, walk}
use Rattle.rv_passage.specs.declared.passage.Passage.{Passage}
use Rattle.rv_stores.specs.declared.store.Store.{Store}
use Rattle.rv_causes.specs.Account.{Accounted, account_of}
use Rattle.rv_causes.specs.Before.{facts_of, stores_of}
use Rattle.rv_causes.specs.Event.{event_from, nothing_yet, refilled_after, waits, with_events}
use Rattle.rv_causes.specs.Fetching.{fetch_event, new_fetch}
use Rattle.rv_causes.specs.Holding.{drain_begun, drain_kept, holds_now, port_event, port_kept, port_taken}
use Rattle.rv_causes.specs.Leaving.{interrupt_event, is_interrupted, leaving_of, left_events, newly_left}
use Rattle.rv_causes.specs.Moving.{all_moved, all_new}
use Rattle.rv_causes.specs.Reading.{HardwareRead, read_of}
use Rattle.rv_causes.specs.Setting.{Setting, is_refilled, last_left}
use Rattle.rv_causes.specs.WaitingStores.{still_waiting, with_queue}
use Rattle.rv_causes.specs.Walk.{path_to}
use Rattle.rv_causes.specs.Way.{way_from}
use Rattle.rv_causes.specs.declared.cause.Cause.TheVariants as cause
use Rattle.rv_causes.specs.declared.point.Stage.TheVariants as stage
use Rattle.rv_causes.specs.declared.{before.Before.Before, before.Facts.Facts, before.UnitHold.UnitHold}
use Rattle.rv_causes.specs.declared.{event.Event.Event, leaving.Leaving.Leaving, way.Way.Way}

-- the events of the instructions in flight, oldest first, who holds units that are not pipelined, and all else that is
-- known; and all events of the run so far, newest first
pub record Known : Type 0 where
  pub ways : List Way
  pub holds : List UnitHold
  pub before : Before
  pub events : List Event

-- what is known beside when a run begins, where the hardware shows this and these stores are in its queue
abbrev pub before_at : Facts → List Store → Before
before_at facts stores =
    record { left = None; port = None; drain = None; facts = facts; waiting = with_queue stores []; refilled = true }

-- when a run begins, all that is in flight stands at its first event
abbrev pub known_at : Hardware → Known
known_at first = record {
  ways = replicate (length (table_at first).rows) (way_from nothing_yet);
  holds = [];
  before = before_at (facts_of first) (stores_of first);
  events = nothing_yet ∷ [];
}

-- what stands in a cycle with these rows
abbrev pub setting_in : ℕ → ℕ → List Passage → Hardware → Known → Setting
setting_in number elapsed rows after known = record {
  number = number;
  elapsed = elapsed;
  values = after.values;
  rows = rows;
  holds = known.holds;
  before = known.before;
  refilled = is_refilled number rows known.before;
}

-- so many words that one event fetched, if some were
abbrev pub ways_by : Option Event → ℕ → List Way
ways_by None count = []
ways_by (Some event) count = replicate count (way_from event)

-- the events of all instructions of a cycle, with the words that were fetched in it
abbrev pub with_fetched : Option Event → List Passage → List Way → List Way
with_fetched event rows ways = ways ++ ways_by event (length rows - length ways)

-- the events of an instruction, where something is so
abbrev pub way_if : Bool → Way → List Way
way_if is w = if is then w ∷ [] else []

-- the events of those that are in flight
abbrev pub still_in_flight : List Passage → List Way → List Way
still_in_flight [] ways = []
still_in_flight (p ∷ ps) [] = []
still_in_flight (p ∷ ps) (w ∷ ws) = way_if (is_in_flight p) w ++ still_in_flight ps ws

-- so many left the hardware, and all of those are older than the others: their events go, and those of the others stay
pub record AreForgotten (rows : List Passage) (ways : List Way) (count : ℕ) : Type 0 where
  pub few : count ≤ length ways
  pub others : still_in_flight rows ways ≡ drop count ways

-- all else that is known after the cycle
abbrev pub before_next : Setting → List Way → List Step → HardwareRead → Leaving → Before
before_next s ways steps after leaving = record {
  left = option_or (newly_left s (is_interrupted steps) leaving) s.before.left;
  port = option_or (port_taken s ways leaving after.facts) (port_kept s.number s.before.port);
  drain = option_or (drain_begun s leaving after.facts) (drain_kept s.number s.before.drain);
  facts = after.facts;
  waiting = still_waiting steps (is_some (drain_begun s leaving after.facts)) s.before.waiting;
  refilled = refilled_after s.refilled (fetch_event s ways (is_interrupted steps) leaving after);
}

-- an interrupt that was taken is an event, and so is the start of a drain or of a write-back of lines
abbrev pub interrupt_taken : Setting → Bool → List Event
interrupt_taken s interrupted = if interrupted then interrupt_event s ∷ [] else []

-- the new events of the cycle after those of the instructions that were in flight before it
abbrev pub new_beside : Setting → List Way → List Step → HardwareRead → Leaving → List Event
new_beside s ways steps after leaving =
    interrupt_taken s (is_interrupted steps) ++ (port_event (port_taken s ways leaving after.facts) ++
    new_fetch s ways (is_interrupted steps) leaving after)

-- all of the cycle, oldest first, where those that were in flight had these events before it, and have those after it
abbrev pub new_events : Setting → List Way → List Way → List Step → HardwareRead → Leaving → List Event
new_events s old ways steps after leaving =
    left_events leaving ++ (all_new s leaving old ++ new_beside s ways steps after leaving)

-- the same where those had these events before it
abbrev pub made_in : Setting → List Way → List Step → HardwareRead → List Event
made_in s old steps after = new_events s old (all_moved s (leaving_of s old) old) steps after (leaving_of s old)

-- what is known after the cycle, where those that were in flight have these events before and after it, by the
-- instructions that leave
abbrev pub known_by : Setting → List Way → List Way → List Event → List Step → HardwareRead → Leaving → Known
known_by s old ways events steps after leaving = record {
  ways = still_in_flight s.rows (with_fetched (fetch_event s ways (is_interrupted steps) leaving after) s.rows ways);
  holds = holds_now s.number s.values s.rows ways s.holds;
  before = before_next s ways steps after leaving;
  events = with_events (new_events s old ways steps after leaving) events;
}

-- what is known after a cycle with these steps, that left the hardware
abbrev pub known_in : Setting → List Way → List Event → List Step → HardwareRead → Known
known_in s ways events steps after =
    known_by s ways (all_moved s (leaving_of s ways) ways) events steps after (leaving_of s ways)

-- what a cycle makes of what is known
abbrev pub known_after : Known → FollowedCycle → Known
known_after known cycle =
    known_in (setting_in cycle.number (length cycle.reports - 1) cycle.passages.rows cycle.after known)
    known.ways known.events cycle.report.steps (read_of cycle.after)

-- what is known after some cycles from some hardware on
abbrev pub known_of : Hardware → List FollowedCycle → Known
known_of first cycles = fold known_after (known_at first) cycles

-- the end of a run of so many cycles, which comes after the last event
abbrev pub end_of : ℕ → Before → Event
end_of cycles before =
    event_from true (record { stage = stage.End; number = 0 }) cycles None
    (waits cause.AfterLast (last_left before.left))

-- the path to it
abbrev pub path_of : ℕ → Known → List Event
path_of cycles known = end_of cycles known.before ∷ path_to known.events (Some (last_left known.before.left).at)

-- The account of a run: how many of its cycles each cause and each word has on the path to the last retirement, trap or interrupt.
abbrev pub account_of_run : Hardware → List Moment → Accounted
account_of_run first moments = account_of (path_of (length moments) (known_of first (walk still_open first moments)))
