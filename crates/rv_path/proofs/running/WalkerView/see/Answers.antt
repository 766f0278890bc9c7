use Rattle.std.proofs.Common.{◌<◌, ◌≤◌, ◌^◌, [], length, refl, subst, sym}
use Rattle.rv_text.proofs.Saying.{says_nothing}
use Rattle.rv_causes.specs.Reading.{CycleRead, cycle_of}
use Rattle.rv_path.proofs.Pathing.{pathing_on}
use Rattle.rv_path.proofs.running.WalkerView.see.Goals as goal

pub follow-requires : goal.follow-requires
follow-requires g c =
    let (start, seen, next, on) = c.requires.shown in
    let is = sym c.read_cycle.ensures in
    record {
      room = c.requires.room;
      few = subst (λ (one : CycleRead). length one.rows ≤ 576) is next.few;
      cycles = subst (λ (one : CycleRead). one.number < 2 ^ 40) is next.shown.counted;
    }

pub returns-clause-seen : goal.returns-clause-seen
returns-clause-seen g c start seen next on =
    pathing_on next (cycle_of c.read_cycle.result) _ c.follow.new.self c.read_cycle.ensures on
    c.follow.ensures.known c.follow.ensures.made

pub returns-clause-said : goal.returns-clause-said
returns-clause-said g c start seen next on = ([], says_nothing _, refl)
