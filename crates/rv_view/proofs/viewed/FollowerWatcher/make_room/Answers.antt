use Rattle.rv_view.proofs.Viewing.{viewing_still}
use Rattle.rv_view.proofs.viewed.FollowerWatcher.make_room.Goals as goal

pub returns-clause-kept : goal.returns-clause-kept
returns-clause-kept g c start seen before now viewing =
    viewing_still g.V.View.has_seen g.V.View.text (c.make_room.ensures.kept start.view seen) viewing
