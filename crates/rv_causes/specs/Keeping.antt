-- What is kept of the path while a run goes on.
use Rattle.std.specs.Prelude.{◌≡◌, ℕ, ◌+◌, ◌≤◌, if◌then◌else◌, List, [], ◌∷◌, ◌++◌}
use Rattle.std.specs.Prelude.{drop, length, vec_capacity, Option, Some, None, is_some}
use Rattle.std.specs.List.{list_all}
use Rattle.std.specs.Option.{option_or}
use Rattle.rv_passage.specs.Passage.{is_in_flight}
use Rattle.rv_passage.specs.declared.passage.Passage.{Passage}
use Rattle.rv_causes.specs.Live.{live_points}
use Rattle.rv_causes.specs.Window.{AllPass, HasRoomForEvents, IsWindow, Passes}
use Rattle.rv_causes.specs.Within.{AreKnown}
use Rattle.rv_hardware.specs.declared.step.Step.{Step}
use Rattle.rv_causes.specs.Fetching.{fetch_event}
use Rattle.rv_causes.specs.Holding.{drain_kept, drain_of, holds_now, port_kept}
use Rattle.rv_causes.specs.Leaving.{is_interrupted, leaving_of}
use Rattle.rv_causes.specs.Moving.{all_moved}
use Rattle.rv_causes.specs.Path.{Known, before_next, known_in, made_in, still_in_flight, with_fetched}
use Rattle.rv_causes.specs.Reading.{CycleRead, HardwareRead}
use Rattle.rv_causes.specs.Setting.{Setting, is_refilled, last_left}
use Rattle.rv_causes.specs.WaitingStores.{still_waiting}
use Rattle.rv_causes.specs.declared.{before.Before.Before, before.UnitHold.UnitHold}
use Rattle.rv_causes.specs.declared.{event.Event.Event, path.Path.Path, point.Point.Point}
use Rattle.rv_causes.specs.declared.{seeing.Seen.Seen, way.Way.Way, window.Window.Window}

-- the events of the instructions in flight
abbrev pub ways_of : Path → List Way
ways_of path = drop path.dropped path.ways.items

-- what a path has of the cycles so far, beside all events
abbrev pub known_of_path : Path → List Event → Known
known_of_path path events =
    record { ways = ways_of path; holds = path.holds.items; before = path.before; events = events }

-- a path changed in nothing but the events of the instructions in flight, the holds of units, or what is known beside
abbrev pub AreSameButWays : Path → Path → Type 0
AreSameButWays old new =
    (new.holds ≡ old.holds) × (new.next ≡ old.next) × (new.before ≡ old.before) × (new.window ≡ old.window)
    × (new.live ≡ old.live)
    × (new.seen ≡ old.seen)

abbrev pub AreSameButHolds : Path → Path → Type 0
AreSameButHolds old new =
    (new.ways ≡ old.ways) × (new.dropped ≡ old.dropped) × (new.next ≡ old.next) × (new.before ≡ old.before)
    × (new.window ≡ old.window) × (new.live ≡ old.live) × (new.seen ≡ old.seen)

abbrev pub AreSameButBefore : Path → Path → Type 0
AreSameButBefore old new =
    (new.ways ≡ old.ways) × (new.dropped ≡ old.dropped) × (new.next ≡ old.next) × (new.holds ≡ old.holds)
    × (new.window ≡ old.window) × (new.live ≡ old.live)

abbrev pub AreSameButWindow : Path → Path → Type 0
AreSameButWindow old new =
    (new.ways ≡ old.ways) × (new.dropped ≡ old.dropped) × (new.next ≡ old.next) × (new.holds ≡ old.holds)
    × (new.before ≡ old.before)

abbrev pub AreSameButLive : Path → Path → Type 0
AreSameButLive old new = AreSameButWindow old new × (new.window ≡ old.window)

-- what a path has beside the events of the instructions in flight is as it was
abbrev pub AreSameBeside : Path → Path → Type 0
AreSameBeside old new = (new.holds ≡ old.holds) × (new.before ≡ old.before) × (new.window ≡ old.window)

-- the point of the last event of the cycles so far
abbrev pub last_point : Path → Option Point
last_point path = Some (last_left path.before.left).at

-- the points of the events for which one of a later cycle may wait
abbrev pub live_of : Path → List Point
live_of path = live_points (ways_of path) path.holds.items path.before

-- the paths to them that a window stands for are still the same
abbrev pub ArePathsKept : Path → Path → Type 0
ArePathsKept old new =
    AllPass old.window (live_of old)
    → ((all : List Event) → IsWindow old.window all → IsWindow new.window all) × AllPass new.window (live_of old)

-- a window has so many events more
abbrev pub IsFollowed : List Event → Window → Window → Type 0
IsFollowed made old new =
    (new.events.items ≡ old.events.items ++ made) × (new.root ≡ old.root) × (new.account ≡ old.account)

-- what is known beside, with what a cycle brings
abbrev pub before_with : ℕ → List Step → Seen → Before → Before
before_with number steps seen before = record {
  left = option_or seen.left before.left;
  port = option_or seen.port (port_kept number before.port);
  drain = option_or (drain_of seen.port) (drain_kept number before.drain);
  facts = seen.facts;
  waiting = still_waiting steps (is_some (drain_of seen.port)) before.waiting;
  refilled = seen.refilled;
}

-- what a cycle brings, where the events of the instructions that were in flight before it stand so after it
pub record IsSeen (s : Setting) (steps : List Step) (after : HardwareRead) (old ways : List Way)
    (seen : Seen) : Type 0 where
  pub moved : ways ≡ all_moved s (leaving_of s old) old
  pub before : before_with s.number steps seen s.before ≡ before_next s ways steps after (leaving_of s old)
  pub fetched : seen.fetch ≡ fetch_event s ways (is_interrupted steps) (leaving_of s old) after

-- what is known after a cycle that is read, that brought this, where those events stand as they do after it
abbrev pub holds_shown : CycleRead → Known → List UnitHold
holds_shown cycle known = holds_now cycle.number cycle.values cycle.rows known.ways known.holds

abbrev pub known_brought : CycleRead → Seen → Known → Known
known_brought cycle seen known = record known {
  ways = still_in_flight cycle.rows (with_fetched seen.fetch cycle.rows known.ways);
  holds = holds_shown cycle known;
  before = before_with cycle.number cycle.steps seen known.before;
}

-- what stands in a cycle that is read
abbrev pub setting_by : CycleRead → List UnitHold → Before → Setting
setting_by cycle holds before = record {
  number = cycle.number;
  elapsed = cycle.elapsed;
  values = cycle.values;
  rows = cycle.rows;
  holds = holds;
  before = before;
  refilled = is_refilled cycle.number cycle.rows before;
}

abbrev pub setting_shown : CycleRead → Known → Setting
setting_shown cycle known = setting_by cycle known.holds known.before

-- the events that it makes
abbrev pub made_shown : CycleRead → Known → List Event
made_shown cycle known = made_in (setting_shown cycle known) known.ways cycle.steps cycle.after

-- what it makes of what is known
abbrev pub known_shown : CycleRead → Known → Known
known_shown cycle known = known_in (setting_shown cycle known) known.ways known.events cycle.steps cycle.after

-- how many left the hardware, if all of those are older than all that did not
abbrev pub one_more : Option ℕ → Option ℕ
one_more None = None
one_more (Some count) = Some (1 + count)

abbrev pub forgotten_in : List Passage → Option ℕ
forgotten_in [] = Some 0
forgotten_in (p ∷ ps) =
    if is_in_flight p then (if list_all is_in_flight ps then Some 0 else None) else one_more (forgotten_in ps)

-- room for what a cycle may add, and for its events
pub record HasRoomForWays (path : Path) : Type 0 where
  pub ways : length path.ways.items + 576 ≤ vec_capacity path.ways
  pub next : 576 ≤ vec_capacity path.next
  pub holds : length path.holds.items + 576 ≤ vec_capacity path.holds

pub record HasRoom (path : Path) : Type 0 where
  pub ways : HasRoomForWays path
  pub events : HasRoomForEvents (length (ways_of path) + 6) path.window

-- The events of the instructions in flight after the cycles so far, and all else that is known then. The window stands
-- for all events of the run, for each path that an event of a later cycle may wait for.
pub record IsKnown (path : Path) (k : Known) : Type 0 where
  pub known : known_of_path path k.events ≡ k
  pub window : IsWindow path.window k.events
  pub passes : AreKnown (λ event. Passes path.window (Some event.at)) k
