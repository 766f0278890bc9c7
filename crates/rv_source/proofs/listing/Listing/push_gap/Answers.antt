use Rattle.std.proofs.Common.{None}
use Rattle.rv_source.proofs.Places.{lines_at-replicate}
use Rattle.rv_source.proofs.listing.Listing.push_gap.Goals as goal

pub returns-clause-pushed : goal.returns-clause-pushed
returns-clause-pushed c =
    rw (
      ← c.self.view_is,
      c.in_ok-push_places.ensures.pushed,
      lines_at-replicate c.self.inside.lines.items
          c.self.inside.words.items c.args.words None,
    )
