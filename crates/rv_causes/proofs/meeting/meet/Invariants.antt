use Rattle.std.proofs.Common.{◌≤◌, length, drop, take, Option}
use Rattle.std.specs.Prelude.{reverse}
use Rattle.rv_causes.specs.Meeting.{IsAmong}
use Rattle.rv_causes.specs.Walk.{AllComeTo, beyond}
use Rattle.rv_causes.specs.declared.point.Point.{Point}
use Rattle.rv_causes.proofs.meeting.meet.Given as goal

-- the walks have passed the newer events, and go on through the older ones
abbrev pub invariant-loop-front : goal.invariant-loop-front
invariant-loop-front l = record {
  within : l.front ≤ length l.events;
  covers : (point : Option Point) → IsAmong point l.initial.wanted.items →
      IsAmong (beyond (reverse (drop l.front l.events)) point) l.wanted.items;
  come : (root : Option Point) → AllComeTo root (reverse l.events) l.initial.wanted.items
      → AllComeTo root (reverse (take l.front l.events)) l.wanted.items;
}

abbrev pub decreases-loop-front : goal.decreases-loop-front
decreases-loop-front l = l.front
