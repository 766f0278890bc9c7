use Rattle.rv_causes.proofs.Caused.{causes_are_so}
use Rattle.rv_path.proofs.OnePath.{one_path}
use Rattle.rv_causes.proofs.Within.{comes_in_time}
use Rattle.rv_view.proofs.HasRun.{has_not_run}
use Rattle.rv_path.proofs.written.write_path.Goals as goal

pub returns-in_default-clause-run : goal.returns-in_default-clause-run
returns-in_default-clause-run g c refused = has_not_run c.args.arrivals.now _

-- whatever was written
pub returns-in_default-clause-one_path : goal.returns-in_default-clause-one_path
returns-in_default-clause-one_path g c = one_path c.args.arrivals.now c.args.limit c.args.listing.now

pub returns-in_default-run_accounted-clause-one_path : goal.returns-in_default-run_accounted-clause-one_path
returns-in_default-run_accounted-clause-one_path g c = one_path c.args.arrivals.now c.args.limit c.args.listing.now

pub returns-in-Ok-write_account-clause-one_path : goal.returns-in-Ok-write_account-clause-one_path
returns-in-Ok-write_account-clause-one_path g c = one_path c.args.arrivals.now c.args.limit c.args.listing.now

pub returns-clause-one_path : goal.returns-clause-one_path
returns-clause-one_path g c = one_path c.args.arrivals.now c.args.limit c.args.listing.now

pub returns-in_default-clause-in_time : goal.returns-in_default-clause-in_time
returns-in_default-clause-in_time g c = comes_in_time

pub returns-in_default-run_accounted-clause-in_time : goal.returns-in_default-run_accounted-clause-in_time
returns-in_default-run_accounted-clause-in_time g c = comes_in_time

pub returns-in-Ok-write_account-clause-in_time : goal.returns-in-Ok-write_account-clause-in_time
returns-in-Ok-write_account-clause-in_time g c = comes_in_time

pub returns-clause-in_time : goal.returns-clause-in_time
returns-clause-in_time g c = comes_in_time

pub returns-in_default-clause-causes : goal.returns-in_default-clause-causes
returns-in_default-clause-causes g c = causes_are_so

pub returns-in_default-run_accounted-clause-causes : goal.returns-in_default-run_accounted-clause-causes
returns-in_default-run_accounted-clause-causes g c = causes_are_so

pub returns-in-Ok-write_account-clause-causes : goal.returns-in-Ok-write_account-clause-causes
returns-in-Ok-write_account-clause-causes g c = causes_are_so

pub returns-clause-causes : goal.returns-clause-causes
returns-clause-causes g c = causes_are_so
