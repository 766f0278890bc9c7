use Rattle.rv_view.proofs.EndedView.{ended_by}
use Rattle.rv_view.proofs.HasRun.{has_not_run, has_run, on_err}
use Rattle.rv_profile.proofs.Profiling.{can_finish, counted_to_the_end, profiling_nothing}
use Rattle.rv_profile.proofs.running.run_profiled.Goals as goal

pub run_view-view-requires-clause-ready : goal.run_view-view-requires-clause-ready
run_view-view-requires-clause-ready g c = profiling_nothing c.args.arrivals.now _ c.new.result c.new.ensures.words

pub finish-requires : goal.finish-requires
finish-requires g c =
    let run = c.run_view-view.ensures in
    record {
      countable = can_finish run.viewed.sees run.viewed.kept c.rows.result.now c.rows.ensures
          c.is_exhausted.ensures.within;
    }

pub returns-in_err-following-clause-run : goal.returns-in_err-following-clause-run
returns-in_err-following-clause-run g c = on_err _ (has_not_run c.args.arrivals.now _)

pub returns-in_err-stop-clause-run : goal.returns-in_err-stop-clause-run
returns-in_err-stop-clause-run g c = on_err _ (has_run c.run_view-view.ensures.passes)

pub returns-in_err-finish-clause-run : goal.returns-in_err-finish-clause-run
returns-in_err-finish-clause-run g c = on_err _ (has_run c.run_view-view.ensures.passes)

pub returns-clause-counted : goal.returns-clause-counted
returns-clause-counted g c =
    let run = c.run_view-view.ensures in
    counted_to_the_end run.viewed.sees run.viewed.kept c.args.description.now c.finish.new.self.words c.rows.result.now
    (ended_by run c.in_ok-stop.stop c.in_ok-stop.was) c.rows.ensures c.new.ensures.costs
    c.in_ok-finish.ensures.words
