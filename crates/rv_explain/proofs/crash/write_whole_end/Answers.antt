use Rattle.std.proofs.Common.{ap}
use Rattle.rv_text.proofs.Saying.{says_same}
use Rattle.rv_explain.specs.Crash.{whole_end_text}
use Rattle.rv_explain.proofs.crash.write_whole_end.Goals as goal

pub returns : goal.returns
returns g c =
    says_same (ap (λ crash. whole_end_text c.args.listing.now crash c.args.last) c.crash.ensures) c.write_end_of.ensures
