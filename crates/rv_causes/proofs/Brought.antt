-- What a cycle brings leads to what is known after it.
use Rattle.std.proofs.Common.{◌≡◌, List, arith}
use Rattle.rv_hardware.specs.declared.step.Step.{Step}
use Rattle.rv_causes.specs.Event.{with_events}
use Rattle.rv_causes.specs.Holding.{holds_now}
use Rattle.rv_causes.specs.Keeping.{IsSeen, before_with}
use Rattle.rv_causes.specs.Path.{known_in, made_in, still_in_flight, with_fetched}
use Rattle.rv_causes.specs.Reading.{HardwareRead}
use Rattle.rv_causes.specs.Setting.{Setting}
use Rattle.rv_causes.specs.declared.{event.Event.Event, seeing.Seen.Seen, way.Way.Way}

-- what is kept after a cycle is known by the events so far, with those of the cycle
pub known-seen : (s : Setting) (steps : List Step) (after : HardwareRead) (old now : List Way)
    (seen : Seen) (events : List Event)
    → IsSeen s steps after old now seen
    → record {
      ways = still_in_flight s.rows (with_fetched seen.fetch s.rows now);
      holds = holds_now s.number s.values s.rows now s.holds;
      before = before_with s.number steps seen s.before;
      events = with_events (made_in s old steps after) events;
    } ≡ known_in s old events steps after
known-seen s steps after old now seen events is = grind arith
