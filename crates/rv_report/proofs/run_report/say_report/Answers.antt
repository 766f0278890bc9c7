use Rattle.std.proofs.Common.{◌≡◌, ap}
use Rattle.rv_report.specs.RunReport.{trace_of, end_of, run_report}
use Rattle.rv_text.proofs.Saying.{says_both, says_same}
use Rattle.rv_report.proofs.run_report.say_report.Goals as goal

pub returns : goal.returns
unfolding run_report
returns g c =
    let steps_are = ap (trace_of c.args.options.now.trace) c.as_slice.ensures.value in
    let end_is : end_of c.of.result c.args.hardware.now c.args.options.now ≡ _ =
    λ i. end_of (c.of.ensures i) c.args.hardware.now c.args.options.now in
    says_both (says_same steps_are c.say_trace.ensures) (says_same end_is c.say_totals.ensures)
