-- A change of the word at one address, and what it keeps.
use Rattle.std.proofs.Common.{◌≡◌, ℕ, ◌≤◌}
use Rattle.std.proofs.Common.{List, [], ◌∷◌, refl, sym, subst, arith}
use Rattle.rv_passage.proofs.ByAddress.{by_place}
use Rattle.rv_causes.specs.Account.{AreWithin, IsWithin, address_of, no_cycles, with_change}
use Rattle.rv_causes.specs.declared.word_cycles.WordCycles.{WordCycles}

-- within more cycles
later : (old new : ℕ) → old ≤ new → (word : WordCycles) → IsWithin old word → IsWithin new word
later old new more word is = record { all = is.all; adds_up = is.adds_up; within = omega (arith, more, is.within) }

-- words within so many cycles are within more
pub within-later : (old new : ℕ) → old ≤ new → (words : List WordCycles) → AreWithin old words → AreWithin new words
within-later old new more [] within = tt
within-later old new more (w ∷ ws) within = (later old new more w within.0, within-later old new more ws within.1)

module _ (address : ℕ) (change : WordCycles → WordCycles) where
  none : (cycles : ℕ) → IsWithin cycles (no_cycles address)
  none cycles = record { all = refl; adds_up = refl; within = omega arith }

  -- all are within more cycles, where the changed one is
  pub within-change : (old new : ℕ) → old ≤ new → ((w : WordCycles) → IsWithin old w → IsWithin new (change w)) →
      (words : List WordCycles)
      → AreWithin old words
      → AreWithin new (with_change address change words)
  within-change old new more then [] within = (then (no_cycles address) (none old), tt)
  within-change old new more then (w ∷ ws) within =
      by_place address_of no_cycles address change (AreWithin new) w ws
      (λ is. (then w within.0, within-later old new more ws within.1))
      (λ above. (then (no_cycles address) (none old), within-later old new more (w ∷ ws) within))
      (λ below. (later old new more w within.0, within-change old new more then ws within.1))

-- nothing changes
pub within-begun : (address cycles : ℕ) (old new : List WordCycles) → new ≡ with_change address (λ w. w) old →
    AreWithin cycles old
    → AreWithin cycles new
within-begun address cycles old new made within =
    subst (AreWithin cycles) (sym made)
    (within-change address (λ w. w) cycles cycles (omega arith) (λ w is. is) old within)
