-- The counts of all addresses.
use Rattle.std.specs.Prelude.{◌≡◌, ℕ, ◌<◌, List}
use Rattle.rv_cache.specs.WriteBack.{Each}
use Rattle.rv_passage.specs.declared.passage.Passage.{Passage}
use Rattle.rv_counts.specs.Counts.{counts_at, times_of}
use Rattle.rv_counts.specs.Order.{HasAddress, IsInOrder}
use Rattle.rv_counts.specs.declared.{counts.WordCounts.WordCounts, loads.LoadCosts.LoadCosts}

-- Counts are those of all passages of a run, and of the addresses at the head, cycle by cycle: there are some for each address
-- that was fetched or stood at the head and for no other, in increasing order.
pub record IsProfileOf (costs : LoadCosts) (passages : List Passage) (heads : List ℕ)
    (words : List WordCounts) : Type 0 where
  pub in_order : IsInOrder words
  pub counted : Each (λ word. word ≡ counts_at costs passages heads word.address) words
  pub seen : Each (λ word. 0 < times_of word) words
  pub all : (address : ℕ) → 0 < times_of (counts_at costs passages heads address) → HasAddress address words
