use Rattle.std.proofs.Common.{◌≡◌, ◌+◌, ◌≤◌, ◌++◌, length, take, vec_capacity}
use Rattle.std.specs.Prelude.{reverse}
use Rattle.rv_causes.specs.Walk.{beyond, path_to}
use Rattle.rv_causes.proofs.meeting.walk.Given as goal

-- the walk goes on through the events that are older
abbrev pub invariant-loop-front : goal.invariant-loop-front
invariant-loop-front l = record {
  within : l.front ≤ length l.events;
  path_is : l.path.items ++ path_to (reverse (take l.front l.events)) l.wanted ≡ l.initial.path.items
      ++ path_to (reverse l.events) l.fn.wanted;
  wanted_is : beyond (reverse (take l.front l.events)) l.wanted ≡ beyond (reverse l.events) l.fn.wanted;
  room : length l.path.items + l.front ≤ vec_capacity l.path;
  capacity : vec_capacity l.initial.path ≤ vec_capacity l.path;
}

abbrev pub decreases-loop-front : goal.decreases-loop-front
decreases-loop-front l = l.front
