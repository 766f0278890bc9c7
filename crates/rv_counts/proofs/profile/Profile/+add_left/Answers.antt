use Rattle.rv_counts.specs.Passing.{has_left}
use Rattle.rv_counts.proofs.Rooms.{filter-le, room-first}
use Rattle.rv_counts.proofs.profile.Profile.+add_left.Goals as goal

pub add-requires : goal.add-requires
add-requires t c = record {
  room = room-first c.args.self.now.costs c.args.rows.now _ c.args.self.now c.add_left.new.self
      c.in-len1-up.len_at_least (filter-le has_left _) c.requires.room
      c.add_left.ensures.words c.add_left.ensures.capacity;
}
