use Rattle.std.proofs.Common.{◌≡◌, false, take}
use Rattle.rv_drawing.specs.Room.{has_older_wait}
use Rattle.rv_drawing.proofs.room.has_older_wait.Given as goal

-- none before waits
abbrev pub invariant-loop-row : goal.invariant-loop-row
invariant-loop-row l = has_older_wait (take l.row-index l.rows) l.number l.cycle ≡ false
