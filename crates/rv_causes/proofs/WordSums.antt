-- Each word of a path has the cycles of its causes, and all words together no more than the path.
use Rattle.std.proofs.Common.{◌≡◌, ℕ, ◌+◌, ◌-◌, ◌≤◌, List, [], ◌∷◌, Option, Some, None, arith}
use Rattle.std.proofs.lemmas.List.Sums.{sum_by-cons}
use Rattle.rv_passage.proofs.ByAddress.{by_place}
use Rattle.rv_causes.specs.Account.{AreWithin, account_of, address_of, no_cycles, with_change, with_more, with_word}
use Rattle.rv_causes.specs.Account.{words_cycles}
use Rattle.rv_causes.specs.declared.{cause.Cause.Cause, event.Event.Event, word_cycles.WordCycles.WordCycles}
use Rattle.rv_causes.proofs.WordWaits.{within-word}

-- those of the first and of the others
words-cons : (word : WordCycles) (words : List WordCycles) → words_cycles (word ∷ words)
    ≡ word.cycles + words_cycles words
words-cons word words = sum_by-cons (λ (w : WordCycles). w.cycles) word words

module _ (address : ℕ) (why : Cause) (more : ℕ) where
  words-change : (words : List WordCycles) → words_cycles (with_change address (with_more why more) words)
      ≡ words_cycles words + more
  words-change [] = omega arith
  words-change (w ∷ ws) =
      by_place address_of no_cycles address (with_more why more) (λ words. words_cycles words ≡ words_cycles (w ∷ ws) + more) w ws
      (λ is. omega (arith, words-cons w ws, words-cons (with_more why more w) ws))
      (λ above. omega (arith, words-cons (with_more why more (no_cycles address)) (w ∷ ws)))
      (λ below. omega (
        arith,
        words-cons w ws,
        words-cons w (with_change address (with_more why more) ws),
        words-change ws,
      ))

-- all together, with so many more
words-with : (address : Option ℕ) (why : Cause) (more : ℕ) (words : List WordCycles)
    → words_cycles (with_word address why more words) ≤ words_cycles words + more
words-with None why more words = omega arith
words-with (Some address) why more words = omega (arith, words-change address why more words)

-- the cycles of all words are no more than those of the path
pub words-within : (path : List Event) → words_cycles (account_of path).words ≤ (account_of path).cycles
words-within [] = omega arith
words-within (event ∷ older) =
    let before = account_of older in
    omega (
      arith,
      words-within older,
      words-with event.reason.address event.reason.cause (event.cycle
          - before.cycles) before.words,
    )

-- each of them
pub words_add_up : (path : List Event) → AreWithin (account_of path).cycles (account_of path).words
words_add_up [] = tt
words_add_up (event ∷ older) = grind (arith, within-word, words_add_up older)
