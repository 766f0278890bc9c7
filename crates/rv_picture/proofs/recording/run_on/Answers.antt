use Rattle.std.proofs.Common.{None}
use Rattle.rv_watch.proofs.Shown.{stops_by}
use Rattle.rv_picture.proofs.recording.run_on.Goals as goal

pub watch-ended-requires-clause-ready : goal.watch-ended-requires-clause-ready
watch-ended-requires-clause-ready g c = (None, tt)

pub returns : goal.returns
returns g c =
    let run = c.watch-ended.ensures in
    (run.moments, record { passes = run.passes; stops = stops_by run c.in-Ok.stop c.in-Ok.is })
