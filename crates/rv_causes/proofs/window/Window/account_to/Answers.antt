use Rattle.std.proofs.Common.{◌+◌, length, arith}
use Rattle.rv_causes.proofs.window.Window.account_to.Goals as goal

pub add_path-requires : goal.add_path-requires
add_path-requires c = record {
  room = c.begin_at.ensures.room (length c.walk-beyond.new.path.items)
      (omega (arith, c.in_ok-reserve-2.ensures.room, c.len.ensures));
}

pub returns-clause-room : goal.returns-clause-room
returns-clause-room c =
    c.add_path.ensures.room 1
    (c.begin_at.ensures.room (length c.walk-beyond.new.path.items + 1)
    (omega (arith, c.in_ok-reserve-2.ensures.room, c.len.ensures)))
