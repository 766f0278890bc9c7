use Rattle.std.proofs.Common.{sym}
use Rattle.rv_watch.proofs.Shown.{stops_by}
use Rattle.rv_report.proofs.LiveReport.{traced_nothing, traced_to_the_end}
use Rattle.rv_report.proofs.live_report.run_traced.Goals as goal

pub returns : goal.returns
returns g c =
    let run = c.watch-ended.ensures in
    let begun = traced_nothing c.default.result (g.W.Write.contents c.args.writer.now) c.default.ensures in
    traced_to_the_end run.passes run.counted (stops_by run c.in-Ok.stop c.in-Ok.is) (sym c.requires.traced)
    (run.seen _ begun) c.new.ensures
