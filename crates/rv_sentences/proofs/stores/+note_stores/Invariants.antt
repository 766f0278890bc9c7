use Rattle.std.proofs.Common.{length}
use Rattle.rv_sentences.proofs.stores.+note_stores.Given as goal

abbrev pub decreases-note_stores : goal.decreases-note_stores
decreases-note_stores l = length l.steps.now
