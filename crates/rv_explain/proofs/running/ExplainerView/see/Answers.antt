use Rattle.std.proofs.Common.{[], ap, arith, refl}
use Rattle.rv_text.proofs.Saying.{says_nothing}
use Rattle.rv_counts.specs.Places.{cycle_total}
use Rattle.rv_explain.proofs.Tallying.{ended, few_places, room, tallied_on}
use Rattle.rv_explain.proofs.running.ExplainerView.see.Goals as goal

pub add-requires : goal.add-requires
add-requires g c =
    let (start, seen, next, tallying) = c.requires.shown in
    record {
      room = room next tallying;
      few = omega (arith, few_places next tallying, ap cycle_total c.cycle_places-places.ensures);
      end = ended next tallying;
    }

pub returns-clause-seen : goal.returns-clause-seen
returns-clause-seen g c start seen next tallying = grind (arith, tallied_on)

pub returns-clause-said : goal.returns-clause-said
returns-clause-said g c start seen next tallying = ([], says_nothing _, refl)
