use Rattle.std.proofs.lemmas.Bool.{le-leb}
use Rattle.rv_view.specs.Viewing.{cycles_seen}
use Rattle.rv_causes.specs.Path.{known_of}
use Rattle.rv_causes.proofs.Followed.{pathing_still}
use Rattle.rv_path.proofs.MarkedRun.{marking_still}
use Rattle.rv_path.proofs.marking.MarkerView.make_room.Goals as goal

pub returns-clause-kept : goal.returns-clause-kept
returns-clause-kept c start seen is =
    let old = c.args.self.now in
    let new = c.make_room_keeping.new.self in
    let made = c.make_room_keeping.ensures in
    let known = known_of seen.first.hardware (cycles_seen seen) in (
      marking_still old new seen (pathing_still old.path new known made.same made.kept is.0.path)
          (λ begun. made.all (le-leb old.from old.cycles begun)) is.0,
      is.1,
    )
