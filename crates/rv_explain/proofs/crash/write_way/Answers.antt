use Rattle.std.proofs.Common.{ap}
use Rattle.rv_text.proofs.Saying.{says_both, says_same}
use Rattle.rv_explain.specs.Crash.{departure_text, way_text}
use Rattle.rv_explain.proofs.crash.write_way.Goals as goal

pub returns : goal.returns
unfolding way_text
returns g c =
    says_both c.write_empty.ensures
    (says_both c.write_passed.ensures
    (says_same (ap (departure_text c.args.listing.now c.args.exception.now.pc) c.departure.ensures)
    c.write_departure.ensures))
