use Rattle.std.proofs.Common.{length}
use Rattle.rv_sentences.proofs.stay.+have_addresses.Given as goal

abbrev pub decreases-have_addresses : goal.decreases-have_addresses
decreases-have_addresses l = length l.older.now
