use Rattle.std.proofs.Common.{length}
use Rattle.rv_causes.proofs.leaving.Leaving.+add_rows.Given as goal

abbrev pub decreases-add_rows : goal.decreases-add_rows
decreases-add_rows l = length l.rows.now
