use Rattle.rv_passage.specs.Table.{passages_of}
use Rattle.rv_picture.proofs.UnderWay.{can_count_on, recording_on}
use Rattle.rv_picture.proofs.recording.FollowerWatcher.see.Goals as goal

pub follow-requires : goal.follow-requires
follow-requires g c =
    let (start, seen, before, shown, so_far) = c.requires.shown in
    record { room = c.requires.room.0; countable = can_count_on shown so_far; few = shown.few }

pub returns : goal.returns
returns g c start seen before shown so_far =
    recording_on shown so_far (passages_of c.follow.new.table) c.follow.ensures.followed c.follow.ensures.fetched
    c.follow.ensures.retired c.note.new.stalls.items c.note.ensures
