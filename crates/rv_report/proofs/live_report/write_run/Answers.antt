use Rattle.std.proofs.Common.{rules}
use Rattle.rv_report.proofs.Learned.{taught_by_trace}
use Rattle.rv_report.proofs.LiveReport.{said_in_part, said_to_the_end, traced_report}
use Rattle.rv_text.proofs.Saying.{says_extends}
use Rattle.rv_report.proofs.live_report.write_run.Goals as goal

pub returns-then-has_failed-clause-report : goal.returns-then-has_failed-clause-report
returns-then-has_failed-clause-report g c =
    let traced = c.run_to_end-run.ensures in (
      c.run_to_end-run.result.totals.stop,
      _,
      traced_report traced,
      said_in_part _ _ c.if-has_failed.true traced.trace
          (says_extends c.after-out.ensures.failed c.after-out.ensures.known c.has_failed.ensures (search rules)
          (rw c.shown.ensures at c.say_totals.ensures)),
    )

pub returns-clause-report : goal.returns-clause-report
returns-clause-report g c =
    let traced = c.run_to_end-run.ensures in (
      _,
      traced_report traced,
      said_to_the_end _ _ c.if-has_failed.false traced.trace
          (says_extends c.after-out.ensures.failed c.after-out.ensures.known c.has_failed.ensures (search rules)
          (rw c.shown.ensures at c.say_totals.ensures)),
    )

pub returns-then-has_failed-clause-learned : goal.returns-then-has_failed-clause-learned
returns-then-has_failed-clause-learned g c = taught_by_trace c.run_to_end-run.ensures

pub returns-clause-learned : goal.returns-clause-learned
returns-clause-learned g c = taught_by_trace c.run_to_end-run.ensures
