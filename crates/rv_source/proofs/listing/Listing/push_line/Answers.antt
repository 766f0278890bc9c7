use Rattle.rv_source.proofs.Places.{lines_at-pushed}
use Rattle.rv_source.proofs.listing.Listing.push_line.Goals as goal

pub returns-clause-pushed : goal.returns-clause-pushed
returns-clause-pushed c = rw (
  ← c.self.view_is,
  c.in_ok-push_places.ensures.pushed,
  c.in_ok-push.ensures.items,
  c.len-place.ensures,
  c.self.inside.lines.ok.0,
  lines_at-pushed c.self.inside.lines.items c.args.line
      c.self.inside.words.items c.args.words c.self.invariant,
)
