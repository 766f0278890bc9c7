use Rattle.rv_log.proofs.OneLog.{one_log}
use Rattle.rv_log.proofs.written.write_log.Goals as goal

pub returns-then-logged-clause-written : goal.returns-then-logged-clause-written
returns-then-logged-clause-written g c =
    let (text, is, wrote) = c.run_logged-logged.ensures in
    (c.run_logged-logged.result.stop, text, is, rw c.if-logged.true at wrote)

pub returns-else-logged-clause-written : goal.returns-else-logged-clause-written
returns-else-logged-clause-written g c = let (text, is, wrote) = c.run_logged-logged.ensures in
    (text, is, rw c.if-logged.false at wrote)

-- whatever was written
pub returns-in_default-clause-one_log : goal.returns-in_default-clause-one_log
returns-in_default-clause-one_log g c = one_log c.args.arrivals.now c.args.limit c.args.listing.now

pub returns-then-logged-clause-one_log : goal.returns-then-logged-clause-one_log
returns-then-logged-clause-one_log g c = one_log c.args.arrivals.now c.args.limit c.args.listing.now

pub returns-else-logged-clause-one_log : goal.returns-else-logged-clause-one_log
returns-else-logged-clause-one_log g c = one_log c.args.arrivals.now c.args.limit c.args.listing.now
