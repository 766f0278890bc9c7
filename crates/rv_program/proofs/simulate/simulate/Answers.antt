use Rattle.std.proofs.Common.{ℕ, List, subst}
use Rattle.std.specs.Io.KnownBytes.{Appends}
use Rattle.rv_program.specs.Answer.{IsAnswer}
use Rattle.rv_program.specs.CoreReport.{IsSimulation}
use Rattle.rv_program.proofs.Answered.{answered_on}
use Rattle.rv_program.proofs.OneReport.{one_report_of}
use Rattle.rv_program.proofs.Simulated.{run_simulated}
use Rattle.rv_program.proofs.simulate.simulate.Goals as goal

pub returns-in_err-write_run-clause-report : goal.returns-in_err-write_run-clause-report
returns-in_err-write_run-clause-report g c =
    let (stop, text, run, written) = c.in_err-write_run.ensures.report in
    let report = run_simulated c.args.job.now _ c.args.options.now c.values.ensures.values c.values.ensures.legal
    c.in-Ok.ensures.fits c.in-Ok.ensures.made c.with_dump-options.ensures run in
    let before = g.W.Write.contents c.args.writer.now in
    let after = g.W.Write.contents c.write_run.new.writer in
    let ended = answered_on (IsSimulation c.args.job.now _ c.args.options.now) _ _ before after
    c.from_residual-in_err-write_run.ensures.1 (stop, text, report, written) in
    -- the box is lent
    subst (λ lent. IsAnswer (IsSimulation c.args.job.now ((goal.Predictor-dyn g lent).known lent.1) c.args.options.now)
    c.from_residual-in_err-write_run.result before after) c.deref_box_mut-1.ensures.value.1 ended

pub returns-clause-report : goal.returns-clause-report
returns-clause-report g c =
    let (text, run, written) = c.in_ok-write_run.ensures.report in
    let report = run_simulated c.args.job.now _ c.args.options.now c.values.ensures.values c.values.ensures.legal
    c.in-Ok.ensures.fits c.in-Ok.ensures.made c.with_dump-options.ensures run in
    let before = g.W.Write.contents c.args.writer.now in
    let after = g.W.Write.contents c.write_run.new.writer in
    -- the box is lent
    subst (λ lent. (text : List ℕ)
    × IsSimulation c.args.job.now ((goal.Predictor-dyn g lent).known lent.1) c.args.options.now
    c.in_ok-write_run.field-0 text × Appends before after text) c.deref_box_mut-1.ensures.value.1
    (text, report, written)

-- whatever was written
pub returns-in_err-write_run-clause-one_report : goal.returns-in_err-write_run-clause-one_report
returns-in_err-write_run-clause-one_report g c p = one_report_of c.args.job.now p c.args.options.now

pub returns-in_err-steps-clause-one_report : goal.returns-in_err-steps-clause-one_report
returns-in_err-steps-clause-one_report g c p = one_report_of c.args.job.now p c.args.options.now

pub returns-clause-one_report : goal.returns-clause-one_report
returns-clause-one_report g c p = one_report_of c.args.job.now p c.args.options.now

pub returns-in_default-clause-one_report : goal.returns-in_default-clause-one_report
returns-in_default-clause-one_report g c p = one_report_of c.args.job.now p c.args.options.now
