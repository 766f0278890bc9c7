use Rattle.std.proofs.Common.{◌-◌, length}
use Rattle.rv_sentences.proofs.stays.+add_stays_from.Given as goal

abbrev pub decreases-add_stays_from : goal.decreases-add_stays_from
decreases-add_stays_from l = length l.rows.now - l.place
