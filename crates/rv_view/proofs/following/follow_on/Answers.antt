use Rattle.std.proofs.Common.{subst, sym}
use Rattle.rv_passage.specs.Passage.{in_flight}
use Rattle.rv_passage.specs.Shown.{AreStill}
use Rattle.rv_passage.specs.Table.{passages_of, with_steps}
use Rattle.rv_hardware.specs.Hardware.{Hardware}
use Rattle.rv_view.specs.Following.{IsFollowedOn}
use Rattle.rv_view.proofs.Begun.{can_follow_to}
use Rattle.rv_watch.specs.Shown.{hardware_shown}
use Rattle.rv_view.proofs.following.follow_on.Goals as goal

pub follow_on-requires-clause-ready : goal.follow_on-requires-clause-ready
follow_on-requires-clause-ready c =
    can_follow_to (hardware_shown c.hardware.inside) c.hardware.invariant.reached c.requires.ready

pub follow_on-requires-clause-still : goal.follow_on-requires-clause-still
follow_on-requires-clause-still c =
    subst (λ (h : Hardware). AreStill c.args.cycle
    (with_steps c.args.steps.now h.pc (passages_of c.args.table.now)).rows (in_flight h))
    (sym c.hardware.view_is) c.requires.still

pub returns : goal.returns
returns c =
    subst (λ h. IsFollowedOn c.args.cycle c.args.steps.now h c.args.table.now c.follow_on.new.self) c.hardware.view_is
    c.follow_on.ensures.followed
