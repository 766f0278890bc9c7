use Rattle.std.proofs.Common.{◌-◌, length, take, drop, arith}
use Rattle.rv_counts.proofs.Rooms.{room-first}
use Rattle.rv_counts.proofs.profile.Profile.+add_all.Goals as goal

pub add-requires : goal.add-requires
add-requires t c =
    let rows = c.args.rows.now in
    record {
      room = room-first c.args.self.now.costs rows (take (length rows - 1) (drop 1 rows)) c.args.self.now
          c.add_all.new.self c.in-len1-up.len_at_least (omega arith) c.requires.room c.add_all.ensures.words
          c.add_all.ensures.capacity;
    }
