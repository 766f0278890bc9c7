use Rattle.rv_core.proofs.Words.{None, sym, subst, reports_of, IsStop}
use Rattle.rv_core.proofs.RunCycles.{run_of_cycles}
use Rattle.rv_watch.proofs.Shown.{cut_short_by, cycles_shown, stops_by}
use Rattle.rv_core.proofs.cycles.collect.Goals as goal

pub returns-in-Ok : goal.returns-in-Ok
returns-in-Ok g c =
    let run = c.watch-ended.ensures in (
      reports_of run.moments,
      run_of_cycles c.args.arrivals.now (cycles_shown run.passes) run.counted (run.seen None c.new-collector.ensures)
          c.outcome.ensures.counts,
      subst (IsStop c.args.limit (reports_of run.moments) c.watch-ended.new.pipeline) (sym c.outcome.ensures.stop)
          (stops_by run c.in-Ok.stop c.in-Ok.is),
    )

pub returns-in-Err : goal.returns-in-Err
returns-in-Err g c =
    let run = c.watch-ended.ensures in
    let short = cut_short_by run _ c.in-Err.is in (
      reports_of run.moments,
      run_of_cycles c.args.arrivals.now (cycles_shown run.passes) run.counted (run.seen None c.new-collector.ensures)
          c.out_of_memory.ensures,
      short.0,
      short.1,
    )
