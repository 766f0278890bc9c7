use Rattle.std.proofs.Common.{subst}
use Rattle.rv_view.specs.Following.{IsFollowedOn}
use Rattle.rv_view.proofs.Begun.{can_follow_to}
use Rattle.rv_watch.specs.Shown.{hardware_shown}
use Rattle.rv_view.proofs.following.follow.Goals as goal

pub follow-requires : goal.follow-requires
follow-requires c = can_follow_to (hardware_shown c.hardware.inside) c.hardware.invariant.reached c.requires

pub returns : goal.returns
returns c =
    subst (λ h. IsFollowedOn c.args.cycle c.args.steps.now h c.args.table.now c.follow.new.self) c.hardware.view_is
    c.follow.ensures.followed
