use Rattle.std.proofs.Common.{◌<◌, ◌≤◌, ◌^◌, [], length, refl, subst, sym}
use Rattle.rv_text.proofs.Saying.{says_nothing}
use Rattle.rv_causes.specs.Keeping.{IsFollowed, known_of_path, made_shown}
use Rattle.rv_causes.specs.Reading.{CycleRead, cycle_of}
use Rattle.rv_path.specs.declared.marking.Marker.{Marker}
use Rattle.rv_path.proofs.MarkedRun.{fits, marking_on}
use Rattle.rv_path.proofs.Pathing.{pathing_on}
use Rattle.rv_path.proofs.marking.MarkerView.see.Goals as goal

pub follow-requires : goal.follow-requires
follow-requires g c =
    let (start, seen, next, on) = c.requires.shown in
    let is = sym c.read_cycle.ensures in
    record {
      room = c.requires.room;
      few = subst (λ (one : CycleRead). length one.rows ≤ 576) is next.few;
      cycles = subst (λ (one : CycleRead). one.number < 2 ^ 40) is next.shown.counted;
    }

pub follow-requires-2-clause-fits : goal.follow-requires-2-clause-fits
follow-requires-2-clause-fits g c =
    let (start, seen, next, on) = c.requires.shown in
    fits next c.args.self.now on.0

pub returns-clause-seen : goal.returns-clause-seen
returns-clause-seen g c start seen next on =
    let old = c.args.self.now in
    let new : Marker = record {
      path = c.follow.new.self;
      numbering = c.follow-2.new.self;
      from = old.from;
      cycles = c.args.cycle.now.progress.now.cycles;
    } in
    let followed = c.follow.ensures in
    let numbered = c.follow-2.ensures in
    let is = c.read_cycle.ensures in
    let made =
    subst (λ (one : CycleRead). IsFollowed (made_shown one (known_of_path old.path [])) old.path.window
    c.follow.new.self.window) is followed.made in (
      marking_on next old new on.0 refl refl
          (pathing_on next (cycle_of c.read_cycle.result) old.path c.follow.new.self is on.0.path
          followed.known followed.made)
          made numbered.followed numbered.begun,
      on.1,
    )

pub returns-clause-said : goal.returns-clause-said
returns-clause-said g c start seen next on = ([], says_nothing _, refl)
