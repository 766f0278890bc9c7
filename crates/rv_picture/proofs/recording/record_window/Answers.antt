use Rattle.std.proofs.Common.{◌≡◌, ◌∙◌, ◌+◌, sym, subst}
use Rattle.std.proofs.lemmas.Result.{on_err_weaker}
use Rattle.rv_arch.specs.declared.outcome.Stop.TheVariants.{Limit}
use Rattle.rv_hardware.specs.Guided.{guided}
use Rattle.rv_passage.specs.EndedRun.{IsEndedRun}
use Rattle.rv_passage.proofs.Followed.{if_ok_by}
use Rattle.rv_picture.specs.Recording.{IsRecorded, held_by}
use Rattle.rv_picture.proofs.UnderWay.{is_by_limit, is_not_by_limit, recorded_later, recorded_nothing}
use Rattle.rv_view.proofs.HasRun.{has_not_run, has_run, has_run_on, on_err}
use Rattle.rv_picture.proofs.recording.record_window.Goals as goal

pub returns-in_err-steps-clause-run : goal.returns-in_err-steps-clause-run
returns-in_err-steps-clause-run g c =
    on_err _ (has_not_run c.args.arrivals.now
    (guided (g.S.Simulated.hardware c.args.pipeline.now)
    ((goal.Predictor-dyn g c.args.predictor.now).known c.args.predictor.now.1)))

pub returns-then-is_limit-clause-recording : goal.returns-then-is_limit-clause-recording
returns-then-is_limit-clause-recording g c =
    let (before, run) = c.run_on-stop.ensures in
    let old = guided (g.S.Simulated.hardware c.args.pipeline.now)
    ((goal.Predictor-dyn g c.args.predictor.now).known c.args.predictor.now.1) in
    let start = guided (g.S.Simulated.hardware c.run_on-stop.new.pipeline)
    ((goal.Predictor-dyn g (c.args.predictor.now.0, c.run_on-stop.new.predictor)).known
    c.run_on-stop.new.predictor) in
    let limit : c.run_on-stop.result ≡ Limit =
    is_by_limit c.run_on-stop.result (sym c.is_limit.ensures ∙ c.if-is_limit.true) in
    if_ok_by c.record_run.result
    (λ r rest. recorded_later (subst (IsEndedRun c.args.arrivals.now c.args.from old before start) limit run) rest)
    c.record_run.ensures.followed

pub returns-else-is_limit-clause-recording : goal.returns-else-is_limit-clause-recording
returns-else-is_limit-clause-recording g c =
    let (before, run) = c.run_on-stop.ensures in
    let old = guided (g.S.Simulated.hardware c.args.pipeline.now)
    ((goal.Predictor-dyn g c.args.predictor.now).known c.args.predictor.now.1) in
    let start = guided (g.S.Simulated.hardware c.run_on-stop.new.pipeline)
    ((goal.Predictor-dyn g (c.args.predictor.now.0, c.run_on-stop.new.predictor)).known
    c.run_on-stop.new.predictor) in
    let other = is_not_by_limit c.run_on-stop.result (sym c.is_limit.ensures ∙ c.if-is_limit.false) in
    if_ok_by c.nothing_shown.result
    (λ r is. subst
    (λ reason. IsRecorded c.args.arrivals.now c.args.from (c.args.from + c.args.limit) old start reason (held_by r))
    (sym is.1) (recorded_nothing c.args.limit other run is.0))
    c.nothing_shown.ensures

pub returns-then-is_limit-clause-run : goal.returns-then-is_limit-clause-run
returns-then-is_limit-clause-run g c =
    let before = has_run c.run_on-stop.ensures.1.passes in
    on_err_weaker c.record_run.result (has_run_on before) c.record_run.ensures.run

pub returns-else-is_limit-clause-run : goal.returns-else-is_limit-clause-run
returns-else-is_limit-clause-run g c = on_err _ (has_run c.run_on-stop.ensures.1.passes)
