use Rattle.std.proofs.Common.{length}
use Rattle.rv_causes.proofs.numbering.+push_numbers.Given as goal

abbrev pub decreases-push_numbers : goal.decreases-push_numbers
decreases-push_numbers l = length l.rows.now
