-- The words after a wait are within the cycles of the path.
use Rattle.std.proofs.Common.{◌≡◌, ℕ, ◌+◌, List, Option, Some, None, arith, subst, sym}
use Rattle.std.proofs.lemmas.List.{length-set}
use Rattle.rv_causes.specs.Account.{AreWithin, IsWithin, with_more, with_word}
use Rattle.rv_causes.specs.declared.{cause.Cause.Cause, word_cycles.WordCycles.WordCycles}
use Rattle.rv_causes.proofs.Accounts.{sum-with}
use Rattle.rv_causes.proofs.WordChanges.{within-change, within-later}

more-within : (cycles more : ℕ) (why : Cause) (word : WordCycles) → IsWithin cycles word →
    IsWithin (cycles + more) (with_more why more word)
more-within cycles more why word is = grind (arith, length-set, sum-with)

-- with a wait they have no more than with its cycles
pub within-word : (address : Option ℕ) (cycles more : ℕ) (why : Cause) (words : List WordCycles) →
    AreWithin cycles words
    → AreWithin (cycles + more) (with_word address why more words)
within-word None cycles more why words within = within-later cycles (cycles + more) (omega arith) words within
within-word (Some address) cycles more why words within =
    within-change address (with_more why more) cycles (cycles + more) (omega arith)
    (more-within cycles more why) words within

-- after a wait, the words are within the cycles of the longer path
pub within-made : (address : Option ℕ) (cycles more : ℕ) (why : Cause) (old new : List WordCycles) →
    new ≡ with_word address why more old
    → AreWithin cycles old → AreWithin (cycles + more) new
within-made address cycles more why old new made within =
    subst (AreWithin (cycles + more)) (sym made) (within-word address cycles more why old within)
