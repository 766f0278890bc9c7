use Rattle.rv_program.specs.ReferenceReport.{IsReferenceReport}
use Rattle.rv_program.proofs.Answered.{answered_on}
use Rattle.rv_program.proofs.Referred.{run_referred}
use Rattle.rv_program.proofs.reference.reference.Goals as goal

pub returns-in_err-write_reference : goal.returns-in_err-write_reference
returns-in_err-write_reference g c =
    let report = run_referred c.args.job.now c.args.options.now c.values-values.ensures.values c.as_slice.ensures
    c.with_dump-options.ensures c.in_ok-machine.ensures.reset c.run_reference-outcome.ensures in
    answered_on (IsReferenceReport c.args.job.now c.args.options.now) _ _ _ _
    c.from_residual-in_err-write_reference.ensures.1
    (_, _, report, c.in_err-write_reference.ensures)

pub returns : goal.returns
returns g c =
    let report = run_referred c.args.job.now c.args.options.now c.values-values.ensures.values c.as_slice.ensures
    c.with_dump-options.ensures c.in_ok-machine.ensures.reset c.run_reference-outcome.ensures in
    (_, report, c.in_ok-write_reference.ensures)
