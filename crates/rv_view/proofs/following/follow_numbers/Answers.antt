use Rattle.std.proofs.Common.{subst}
use Rattle.rv_view.specs.Following.{IsNumberedOn}
use Rattle.rv_view.proofs.Begun.{can_follow_to}
use Rattle.rv_watch.specs.Shown.{hardware_shown}
use Rattle.rv_view.proofs.following.follow_numbers.Goals as goal

pub follow_numbers-requires : goal.follow_numbers-requires
follow_numbers-requires c = can_follow_to (hardware_shown c.hardware.inside) c.hardware.invariant.reached c.requires

pub returns : goal.returns
returns c =
    subst (λ h. IsNumberedOn c.args.cycle c.args.steps.now h c.args.table.now
    c.follow_numbers.new.self) c.hardware.view_is
    c.follow_numbers.ensures.followed
