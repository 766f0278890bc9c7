use Rattle.rv_program.proofs.OneSensitivity.{one_sensitivity_of}
use Rattle.rv_program.proofs.sensitivity.sensitivity.Goals as goal

-- whatever was written
pub returns-clause-one_table : goal.returns-clause-one_table
returns-clause-one_table g c = one_sensitivity_of c.args.job.now c.args.own.now c.args.options.now
