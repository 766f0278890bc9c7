-- Counts in increasing order of address, and a change of those at one address.
use Rattle.std.specs.Prelude.{◌≡◌, ℕ, List, [], ◌∷◌, ◌⊎◌}
use Rattle.rv_passage.specs.ByAddress as kept
use Rattle.rv_counts.specs.Counts.{nothing_at}
use Rattle.rv_counts.specs.declared.counts.WordCounts.{WordCounts}

-- the address that counts are of
abbrev pub address_of : WordCounts → ℕ
address_of word = word.address

-- all of an address above this one
abbrev pub AreAbove : ℕ → List WordCounts → Type 0
AreAbove = kept.AreAbove address_of

-- each address is below those after it
abbrev pub IsInOrder : List WordCounts → Type 0
IsInOrder = kept.IsInOrder address_of

-- some of them are those of an address
abbrev pub HasAddress : ℕ → List WordCounts → Type 0
HasAddress address [] = ⊥
HasAddress address (word ∷ words) = (word.address ≡ address) ⊎ HasAddress address words

-- a change of the counts at an address, which are nothing where there are none yet
abbrev pub with_change : ℕ → (WordCounts → WordCounts) → List WordCounts → List WordCounts
with_change = kept.with_change address_of nothing_at
