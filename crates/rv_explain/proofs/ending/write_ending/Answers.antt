use Rattle.std.proofs.Common.{ap}
use Rattle.rv_explain.specs.Ending.{ending_text}
use Rattle.rv_source.specs.PlaceText.{place_text}
use Rattle.rv_text.proofs.Saying.{says_both, says_same}
use Rattle.rv_explain.proofs.ending.write_ending.Goals as goal

pub returns : goal.returns
unfolding ending_text
returns g c =
    says_both (says_same c.reason.ensures c.put.ensures)
    (says_both (says_same (ap (place_text c.args.listing.now) c.place.ensures) c.write_place.ensures)
    c.write_stale.ensures)
