use Rattle.std.proofs.Common.{subst, arith}
use Rattle.rv_passage.specs.ByAddress.{IsPlaceOf}
use Rattle.rv_passage.proofs.ByAddress.{begun-new, begun-there, change-at, change-made}
use Rattle.rv_passage.proofs.by_address.place_of.Goals as goal

pub returns-in-Ok-clause-kept : goal.returns-in-Ok-clause-kept
returns-in-Ok-clause-kept g c =
    begun-there g.T.Addressed.address_of g.T.Addressed.nothing_at c.args.address c.args.kept.now.items c.in-Ok.place
    (subst (IsPlaceOf g.T.Addressed.address_of c.args.address c.in-Ok.place) c.as_slice.ensures.value
    c.in-Ok.ensures.found)

pub returns-in-Ok-clause-changes : goal.returns-in-Ok-clause-changes
returns-in-Ok-clause-changes g c = grind (arith, change-at)

pub returns-in-Err-clause-kept : goal.returns-in-Err-clause-kept
returns-in-Err-clause-kept g c = grind (arith, begun-new)

pub returns-in-Err-clause-changes : goal.returns-in-Err-clause-changes
returns-in-Err-clause-changes g c = grind (arith, change-made)
