use Rattle.std.proofs.Common.{◌≡◌, ℕ, ◌+◌, ◌≤◌, length, vec_capacity}
use Rattle.rv_causes.specs.Account.{with_path}
use Rattle.rv_causes.specs.Window.{HasRoomFor, accounted}
use Rattle.rv_causes.proofs.account.Account.add_path.Given as goal

-- what is left of the path is accounted for at the end
abbrev pub invariant-loop-event : goal.invariant-loop-event
invariant-loop-event l = record {
  account : with_path l.path.items (accounted l.self) ≡ with_path l.initial.path.items (accounted l.initial.self);
  room : HasRoomFor (length l.path.items) l.self;
  spare : (more : ℕ) → HasRoomFor (length l.initial.path.items + more) l.initial.self →
      HasRoomFor (length l.path.items + more) l.self;
  capacity : vec_capacity l.initial.path ≤ vec_capacity l.path;
}

abbrev pub decreases-loop-event : goal.decreases-loop-event
decreases-loop-event l = length l.path.items
