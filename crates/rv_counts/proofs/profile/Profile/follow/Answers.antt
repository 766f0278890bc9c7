use Rattle.std.proofs.Common.{◌+◌, length, arith}
use Rattle.rv_counts.proofs.InFlight.{left_same}
use Rattle.rv_counts.proofs.Rooms.{room-fewer, room-head}
use Rattle.rv_counts.proofs.profile.Profile.follow.Goals as goal

pub add_left-requires : goal.add_left-requires
add_left-requires c =
    let kept = c.up_to_youngest_left.result.now in
    let room = room-fewer c.args.self.now (length c.args.rows.now + 1) (length kept + 1)
    (omega (arith, c.up_to_youngest_left.ensures.few)) c.requires.room in
    record {
      room = room-head c.args.head c.args.self.now c.note_head.new.self _ room c.note_head.ensures.words
          c.note_head.ensures.capacity;
    }

pub returns-clause-words : goal.returns-clause-words
returns-clause-words c = grind (arith, left_same)
