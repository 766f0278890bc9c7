use Rattle.std.proofs.Common.{◌≡◌, ◌≤◌, ◌+◌, ◌++◌, length}
use Rattle.std.specs.Prelude.{vec_capacity}
use Rattle.rv_causes.specs.Moving.{moved_up_to, new_up_to}
use Rattle.rv_causes.specs.Setting.{setting_of}
use Rattle.rv_causes.proofs.moving.move_all.Given as goal

-- the instructions so far have the events of the cycle
abbrev pub invariant-loop-place : goal.invariant-loop-place
invariant-loop-place l =
    (l.ways ≡ moved_up_to (setting_of l.scene) l.leaving l.place l.fn.ways)
    × (l.events.items ≡ l.fn.events.items ++ new_up_to (setting_of l.scene) l.leaving l.place l.fn.ways)
    × (length l.events.items ≤ length l.fn.events.items + l.place)
    × (vec_capacity l.fn.events ≤ vec_capacity l.events)
