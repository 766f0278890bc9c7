use Rattle.rv_view.proofs.Viewing.{viewing_nothing}
use Rattle.rv_view.proofs.viewed.run_view.Goals as goal

pub watch-ended-requires-clause-ready : goal.watch-ended-requires-clause-ready
watch-ended-requires-clause-ready g c = (
  g.W.Write.contents c.args.writer.now,
  viewing_nothing g.V.View.has_seen g.V.View.text c.args.has_failed _
      c.requires.follows c.requires.ready (g.met.V.View.nothing_said c.args.view _),
)

pub returns : goal.returns
returns g c =
    let run = c.watch-ended.ensures in
    let begun = viewing_nothing g.V.View.has_seen g.V.View.text c.args.has_failed _ c.requires.follows c.requires.ready
    (g.met.V.View.nothing_said c.args.view _) in
    record {
      moments = run.moments;
      passes = run.passes;
      counted = run.counted;
      ends = run.ends;
      viewed = run.seen _ begun;
    }
