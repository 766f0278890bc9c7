use Rattle.std.proofs.Common.{sym}
use Rattle.rv_passage.proofs.Dropped.{none_in_flight}
use Rattle.rv_passage.proofs.rows.count_first_ended.Goals as goal

pub returns-in-None : goal.returns-in-None
returns-in-None c = sym (none_in_flight c.args.rows.now (sym c.in-None.ensures))
