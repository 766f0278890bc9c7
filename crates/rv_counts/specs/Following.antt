-- What a cycle makes of a profile.
use Rattle.std.specs.Prelude.{ℕ, ◌+◌, ◌^◌, ◌≤◌, ◌<◌, List, [], ◌∷◌, length, filter, Option, Some, None}
use Rattle.rv_cache.specs.WriteBack.{Each}
use Rattle.rv_passage.specs.declared.passage.Passage.{Passage}
use Rattle.rv_counts.specs.Counts.{IsWithin, added, once_more_at_head}
use Rattle.rv_counts.specs.Order.{with_change}
use Rattle.rv_counts.specs.Passing.{has_left}
use Rattle.rv_counts.specs.declared.{counts.WordCounts.WordCounts, loads.LoadCosts.LoadCosts}

-- what a load costs that need not go to memory, the counts, and how many of them there is room for
pub record Profiled : Type 0 where
  pub costs : LoadCosts
  pub words : List WordCounts
  pub capacity : ℕ

-- with one more cycle that left an address at the head
abbrev pub with_head : Option ℕ → List WordCounts → List WordCounts
with_head None words = words
with_head (Some address) words = with_change address once_more_at_head words

-- with some passages more, of which the first is the last
abbrev pub with_passages : LoadCosts → List Passage → List WordCounts → List WordCounts
with_passages costs [] words = words
with_passages costs (p ∷ ps) words = with_change p.pc (added costs p) (with_passages costs ps words)

-- with one more cycle, by the passages at its end, those that left the hardware in it among them, and the address at the head
abbrev pub with_cycle : LoadCosts → List Passage → Option ℕ → List WordCounts → List WordCounts
with_cycle costs rows head words = with_passages costs (filter has_left rows) (with_head head words)

-- the counts can go on by so many passages
pub record CanCountMore (words : List WordCounts) (more : ℕ) : Type 0 where
  pub most : ℕ
  pub counts : Each (IsWithin most) words
  pub countable : most + more < 2 ^ 50

-- room for so many addresses more, whose counts can go on as often
pub record HasRoom (profile : Profiled) (more : ℕ) : Type 0 where
  pub capacity : length profile.words + more ≤ profile.capacity
  pub counts : CanCountMore profile.words more
