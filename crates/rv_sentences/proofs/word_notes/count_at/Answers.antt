use Rattle.std.proofs.Common.{◌∙◌, arith, sym}
use Rattle.rv_sentences.proofs.CountSums.{counted_few}
use Rattle.rv_sentences.proofs.word_notes.count_at.Goals as goal

pub overflow_add-count : goal.overflow_add-count
overflow_add-count c = omega
    (arith, counted_few c.args.counts.now _ _ (sym c.at.ensures ∙ c.in-Some.is), c.requires.room)
