use Rattle.rv_path.proofs.OneAccount.{one_account}
use Rattle.rv_view.proofs.HasRun.{has_not_run, on_err}
use Rattle.rv_path.proofs.path_account.account_path.Goals as goal

-- whatever is answered
pub returns-in_err-shares-clause-one_account : goal.returns-in_err-shares-clause-one_account
returns-in_err-shares-clause-one_account g c = one_account c.args.arrivals.now c.args.limit

pub returns-in_err-shares-clause-run : goal.returns-in_err-shares-clause-run
returns-in_err-shares-clause-run g c = on_err _ (has_not_run c.args.arrivals.now _)

pub returns-in_err-done-clause-one_account : goal.returns-in_err-done-clause-one_account
returns-in_err-done-clause-one_account g c = one_account c.args.arrivals.now c.args.limit

pub returns-clause-one_account : goal.returns-clause-one_account
returns-clause-one_account g c = one_account c.args.arrivals.now c.args.limit
