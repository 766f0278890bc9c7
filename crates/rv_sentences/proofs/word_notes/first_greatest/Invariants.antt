use Rattle.std.proofs.Common.{◌≡◌, ◌+◌, ◌≤◌, length, drop}
use Rattle.rv_sentences.specs.GreatestLines.{first_greatest}
use Rattle.rv_sentences.proofs.word_notes.first_greatest.Given as goal

-- the greatest of the words after the front is known
abbrev pub invariant-loop-front : goal.invariant-loop-front
invariant-loop-front l = (l.greatest.place + l.front ≤ length l.counts)
    × (l.greatest ≡ first_greatest (drop l.front l.counts))

abbrev pub decreases-loop-front : goal.decreases-loop-front
decreases-loop-front l = l.front
