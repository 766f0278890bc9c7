use Rattle.std.proofs.Common.{length}
use Rattle.rv_sentences.proofs.flushers.+flusher_after.Given as goal

abbrev pub decreases-flusher_after : goal.decreases-flusher_after
decreases-flusher_after l = length l.rows.now
