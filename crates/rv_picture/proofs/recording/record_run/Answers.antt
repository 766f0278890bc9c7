use Rattle.std.proofs.Common.{None, ap, sym, subst}
use Rattle.rv_watch.specs.declared.progress.Progress.{Progress}
use Rattle.rv_watch.proofs.Shown.{stops_by}
use Rattle.rv_hardware.specs.Guided.{guided}
use Rattle.rv_passage.specs.Table.{passages_of}
use Rattle.rv_picture.specs.Recording.{IsRecorded, held_by}
use Rattle.rv_picture.specs.declared.recording.Recording.{Recording}
use Rattle.rv_picture.proofs.UnderWay.{recorded_to_the_end, recording_nothing}
use Rattle.rv_view.proofs.HasRun.{has_not_run, has_run, on_err}
use Rattle.rv_picture.proofs.recording.record_run.Goals as goal

pub returns-in_err-table-clause-run : goal.returns-in_err-table-clause-run
returns-in_err-table-clause-run g c =
    on_err _ (has_not_run c.args.arrivals.now
    (guided (g.S.Simulated.hardware c.args.pipeline.now)
    ((goal.Predictor-dyn g c.args.predictor.now).known c.args.predictor.now.1)))

pub returns-in_err-steps-clause-run : goal.returns-in_err-steps-clause-run
returns-in_err-steps-clause-run g c =
    on_err _ (has_not_run c.args.arrivals.now
    (guided (g.S.Simulated.hardware c.args.pipeline.now)
    ((goal.Predictor-dyn g c.args.predictor.now).known c.args.predictor.now.1)))

pub returns-in_err-stop-clause-run : goal.returns-in_err-stop-clause-run
returns-in_err-stop-clause-run g c = on_err _ (has_run c.watch-ended.ensures.passes)

pub watch-ended-requires-clause-ready : goal.watch-ended-requires-clause-ready
watch-ended-requires-clause-ready g c = (
  None,
  recording_nothing c.args.arrivals.now _ (passages_of c.in_ok-table.table) c.new.result.items
      c.in_ok-table.ensures.passages c.in_ok-table.ensures.few c.new.ensures.items,
)

pub returns-clause-followed : goal.returns-clause-followed
returns-clause-followed g c =
    let old = guided (g.S.Simulated.hardware c.args.pipeline.now)
    ((goal.Predictor-dyn g c.args.predictor.now).known c.args.predictor.now.1) in
    let new = guided (g.S.Simulated.hardware c.watch-ended.new.self)
    ((goal.Predictor-dyn g (c.args.predictor.now.0, c.watch-ended.new.predictor)).known
    c.watch-ended.new.predictor) in
    let run = c.watch-ended.ensures in
    let begun = recording_nothing c.args.arrivals.now old (passages_of c.in_ok-table.table) c.new.result.items
    c.in_ok-table.ensures.passages c.in_ok-table.ensures.few c.new.ensures.items in
    subst (λ (r : Recording). IsRecorded c.args.arrivals.now 0 c.args.limit old new r.stop (held_by r))
    (sym c.recorded.ensures)
    (recorded_to_the_end c.cycles_done-first.result c.watch-ended.result.progress.cycles
    (record { passes = run.passes; stops = stops_by run c.in_ok-stop.stop c.in_ok-stop.was }) (run.seen None begun)
    c.cycles_done-first.ensures.number (ap (λ (p : Progress). p.cycles) run.counted))
