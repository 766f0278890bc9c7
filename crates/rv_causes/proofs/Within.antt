-- All events that are known after some cycles come within them, and of all events of a run no older one comes after a newer one.
use Rattle.std.proofs.Common.{◌≡◌, ℕ, ◌+◌, ◌-◌, ◌≤◌, List, [], ◌∷◌, length, subst, arith, length-append}
use Rattle.std.specs.List.{fold}
use Rattle.rv_hardware.specs.History.{Moment}
use Rattle.rv_hardware.specs.declared.step.Step.{Step}
use Rattle.rv_passage.specs.Table.{still_open, table_at}
use Rattle.rv_passage.specs.Walk.{Standing, next_cycle, standing_after, standing_at, walk, walk_from}
use Rattle.rv_causes.specs.Event.{nothing_yet}
use Rattle.rv_causes.specs.Path.{Known, known_after, known_at, known_in, known_of, setting_in}
use Rattle.rv_causes.specs.Reading.{HardwareRead, read_of}
use Rattle.rv_causes.specs.Setting.{Setting}
use Rattle.rv_causes.specs.Walk.{AreInTime}
use Rattle.rv_causes.specs.Way.{way_from}
use Rattle.rv_causes.specs.Within.{AreHoldsOf, AreWaysOf, AreWithin, ComesInTime, IsBeforeOf, IsWayOf, IsWithin}
use Rattle.rv_causes.specs.declared.{event.Event.Event, way.Way.Way}
use Rattle.rv_causes.proofs.Cycles.{cycle_keeps}
use Rattle.rv_causes.proofs.EventLists.{before_implies, holds_imply, known_implies, replicate_have, ways_imply}
use Rattle.rv_causes.proofs.News.{IsKept}

-- an event comes within so many cycles, and so do all, in their order
abbrev pub InTime : ℕ → List Event → Event → Type 0
InTime cycles all event = AreInTime cycles all × IsWithin cycles event

-- that is so with each new event
in_time_kept : (cycles : ℕ) → IsKept cycles (InTime cycles)
in_time_kept cycles = grind arith

-- what lies within some cycles lies within more
later : (cycles more : ℕ) → cycles ≤ more → (event : Event) → IsWithin cycles event → IsWithin more event
later cycles more along event is = omega (arith, along, is)

events_later : (cycles more : ℕ) (events : List Event) → cycles ≤ more → AreInTime cycles events → AreInTime more events
events_later cycles more [] along are = tt
events_later cycles more (event ∷ older) along are = (omega (arith, along, are.0), are.1)

within_later : (cycles more : ℕ) (known : Known) → cycles ≤ more → AreWithin cycles known → AreWithin more known
within_later cycles more known along within = record {
  live = known_implies (IsWithin cycles) (IsWithin more) (later cycles more along) known within.live;
  events = events_later cycles more known.events along within.events;
}

-- one cycle
cycle_within : (s : Setting) (ways : List Way) (all : List Event) (steps : List Step) (after : HardwareRead) →
    AreInTime s.elapsed all
    → AreHoldsOf (IsWithin s.elapsed) s.holds → IsBeforeOf (IsWithin s.elapsed) s.before →
    AreWaysOf (IsWithin s.elapsed) ways
    → AreWithin s.elapsed (known_in s ways all steps after)
cycle_within s ways all steps after in-time holds before ways-are =
    let P = InTime s.elapsed all in
    let both : (event : Event) → IsWithin s.elapsed event → P event = λ event is. (in-time, is) in
    let next = cycle_keeps s (InTime s.elapsed) (in_time_kept s.elapsed) all ways steps after
    (holds_imply (IsWithin s.elapsed) P both s.holds holds) (before_implies (IsWithin s.elapsed) P both s.before before)
    (ways_imply (IsWithin s.elapsed) P both ways ways-are) in
    let known = known_in s ways all steps after in
    record {
      live = known_implies (InTime s.elapsed known.events) (IsWithin s.elapsed) (λ event is. is.1) known next;
      events = next.before.left.0;
    }

-- the cycles of a run, one after another
walk_within : (standing : Standing) (known : Known) (moments : List Moment) → AreWithin (length standing.reports) known
    → AreWithin (length standing.reports + length moments)
    (fold known_after known (walk_from still_open standing moments))
walk_within standing known [] within = within_later (length standing.reports) (length standing.reports + 0)
    known (omega arith) within
walk_within standing known (moment ∷ moments) within =
    let cycle = next_cycle standing moment in
    let one : length cycle.reports ≡ length standing.reports + 1 =
    length-append standing.reports (moment.report ∷ []) in
    let s = setting_in cycle.number (length cycle.reports - 1) cycle.passages.rows cycle.after known in
    let elapsed : length standing.reports ≤ s.elapsed = omega (arith, one) in
    let now = within_later (length standing.reports) s.elapsed known elapsed within in
    let after = cycle_within s known.ways known.events cycle.report.steps (read_of cycle.after) now.events
    now.live.holds now.live.before now.live.ways in
    let next = within_later s.elapsed (length cycle.reports) (known_after known cycle) (omega (arith, one)) after in
    within_later (length cycle.reports + length moments) (length standing.reports + length (moment ∷ moments))
    (fold known_after (known_after known cycle) (walk_from still_open (standing_after still_open cycle) moments))
    (omega (arith, one))
    (walk_within (standing_after still_open cycle) (known_after known cycle) moments next)

-- no event of a run comes before the one that it waited for
pub comes_in_time : ComesInTime
comes_in_time first moments =
    let so_far : 0 + length moments ≡ length moments = omega arith in
    let begins : IsWayOf (IsWithin 0) (way_from nothing_yet) = record {
      fetch = omega arith;
      dispatch = tt;
      issue = tt;
      broadcast = tt;
    } in
    subst (λ cycles. AreWithin cycles (known_of first (walk still_open first moments))) so_far
    (walk_within (standing_at first) (known_at first) moments (record {
      live = record {
        ways = replicate_have (IsWithin 0) (length (table_at first).rows) (way_from nothing_yet) begins;
        holds = tt;
        before = record { left = omega arith; port = tt; drain = tt };
      };
      events = (omega arith, tt);
    }))
