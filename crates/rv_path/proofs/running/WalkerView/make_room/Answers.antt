use Rattle.rv_causes.proofs.Followed.{pathing_still}
use Rattle.rv_path.proofs.running.WalkerView.make_room.Goals as goal

pub returns-clause-kept : goal.returns-clause-kept
returns-clause-kept c start seen on = pathing_still _ _ _ c.make_room.ensures.same c.make_room.ensures.kept on
