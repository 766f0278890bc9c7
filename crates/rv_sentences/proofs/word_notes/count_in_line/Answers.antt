use Rattle.std.proofs.Common.{arith}
use Rattle.rv_sentences.proofs.LineCounts.{by_place, none_above, none_below}
use Rattle.rv_sentences.proofs.word_notes.count_in_line.Goals as goal

pub returns-then-place-words : goal.returns-then-place-words
returns-then-place-words c = grind (arith, none_above)

pub returns : goal.returns
returns c = grind (arith, by_place)
