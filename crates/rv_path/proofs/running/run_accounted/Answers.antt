use Rattle.std.proofs.Common.{◌≡◌, rules}
use Rattle.rv_view.proofs.EndedView.{ended_by}
use Rattle.rv_view.proofs.HasRun.{has_not_run, has_run, on_err}
use Rattle.rv_passage.specs.Table.{table_at}
use Rattle.rv_causes.specs.Window.{accounted}
use Rattle.rv_causes.proofs.Followed.{pathing_nothing}
use Rattle.rv_path.proofs.Pathing.{accounted_run}
use Rattle.rv_path.proofs.running.run_accounted.Goals as goal

pub run_view-view-requires-clause-ready : goal.run_view-view-requires-clause-ready
run_view-view-requires-clause-ready g c =
    let begun = c.in_ok-path.ensures in
    let rows_are : c.rows.result.now ≡ (table_at (g.S.Simulated.hardware c.args.pipeline.now)).rows = search rules in
    pathing_nothing (g.S.Simulated.hardware c.args.pipeline.now) c.in_ok-path.path c.rows.result.now rows_are begun.ways
    begun.holds begun.before begun.window begun.passes

pub returns-in_err-following-clause-run : goal.returns-in_err-following-clause-run
returns-in_err-following-clause-run g c = on_err _ (has_not_run c.args.arrivals.now _)

pub returns-in_err-path-clause-run : goal.returns-in_err-path-clause-run
returns-in_err-path-clause-run g c = on_err _ (has_not_run c.args.arrivals.now _)

pub returns-in_err-stop-clause-run : goal.returns-in_err-stop-clause-run
returns-in_err-stop-clause-run g c = on_err _ (has_run c.run_view-view.ensures.passes)

pub returns-in_err-account-clause-run : goal.returns-in_err-account-clause-run
returns-in_err-account-clause-run g c = on_err _ (has_run c.run_view-view.ensures.passes)

pub returns-clause-accounted : goal.returns-clause-accounted
returns-clause-accounted g c =
    let run = c.run_view-view.ensures in
    accounted_run c.run_view-view.result.view.path (accounted c.in_ok-account.account) run.viewed.sees
    (ended_by run c.in_ok-stop.stop c.in_ok-stop.was) run.counted c.in_ok-account.ensures
