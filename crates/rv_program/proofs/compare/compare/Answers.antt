use Rattle.rv_program.proofs.OneTable.{one_table_of}
use Rattle.rv_program.proofs.compare.compare.Goals as goal

-- whatever was written
pub returns-in_err-write_table-clause-one_table : goal.returns-in_err-write_table-clause-one_table
returns-in_err-write_table-clause-one_table g c = one_table_of c.args.comparison.now c.args.options.now

pub returns-clause-one_table : goal.returns-clause-one_table
returns-clause-one_table g c = one_table_of c.args.comparison.now c.args.options.now

pub returns-in_default-clause-one_table : goal.returns-in_default-clause-one_table
returns-in_default-clause-one_table g c = one_table_of c.args.comparison.now c.args.options.now
