-- The loads that retired, word by word.
use Rattle.std.specs.Prelude.{ℕ, ◌+◌, ◌^◌, ◌≤◌, ◌<◌, ◌==◌, ◌&&◌, Bool, false, not}
use Rattle.std.specs.Prelude.{List, [], ◌∷◌, count_by, filter, Option, Some, None}
use Rattle.rv_cache.specs.WriteBack.{Each}
use Rattle.rv_memory.specs.Memory.{word_of}
use Rattle.rv_passage.specs.declared.passage.Passage.{Passage}
use Rattle.rv_counts.specs.Counts.{one_more}
use Rattle.rv_counts.specs.Load.{is_hit, is_miss, is_slow}
use Rattle.rv_counts.specs.declared.loads.LoadCosts.{LoadCosts}
use Rattle.rv_sentences.specs.Load.{retired_load_cost}
use Rattle.rv_sentences.specs.WordNotes.{Notes, with_change}
use Rattle.rv_sentences.specs.declared.outcomes.Outcomes.{Outcomes}

-- a load at a greater cost than that of a miss alone: a dirty line was written back
abbrev pub is_write_back : LoadCosts → Option ℕ → Bool
is_write_back costs None = false
is_write_back costs (Some cost) = is_slow costs cost

-- a load at the cost of forwarding, where that is another than that of a hit
abbrev pub is_forwarded : LoadCosts → Option ℕ → Bool
is_forwarded costs None = false
is_forwarded costs (Some cost) = (cost == costs.forward) && not (cost == costs.hit)

-- of some instructions
abbrev pub outcomes_of : LoadCosts → List Passage → Outcomes
outcomes_of costs passages = record {
  hits = count_by (λ p. is_hit costs (retired_load_cost p)) passages;
  forwarded = count_by (λ p. is_forwarded costs (retired_load_cost p)) passages;
  misses = count_by (λ p. is_miss costs (retired_load_cost p)) passages;
  write_backs = count_by (λ p. is_write_back costs (retired_load_cost p)) passages;
}

-- an instruction was fetched from a word
abbrev pub is_in : ℕ → Passage → Bool
is_in word p = word_of p.pc == word

-- of those that were fetched from a word
abbrev pub outcomes_at : LoadCosts → List Passage → ℕ → Outcomes
outcomes_at costs passages word = outcomes_of costs (filter (is_in word) passages)

-- with one more
abbrev pub outcomes_with : LoadCosts → Passage → Outcomes → Outcomes
outcomes_with costs p outcomes = record {
  hits = one_more (is_hit costs (retired_load_cost p)) outcomes.hits;
  forwarded = one_more (is_forwarded costs (retired_load_cost p)) outcomes.forwarded;
  misses = one_more (is_miss costs (retired_load_cost p)) outcomes.misses;
  write_backs = one_more (is_write_back costs (retired_load_cost p)) outcomes.write_backs;
}

-- the words with some instructions more, of which the first is the last
abbrev pub with_passages : LoadCosts → List Passage → Notes Outcomes → Notes Outcomes
with_passages costs [] notes = notes
with_passages costs (p ∷ ps) notes = with_change (outcomes_with costs p) (with_passages costs ps notes) (word_of p.pc)

-- none of the counts is above a bound
pub record IsWithin (most : ℕ) (outcomes : Outcomes) : Type 0 where
  pub hits : outcomes.hits ≤ most
  pub forwarded : outcomes.forwarded ≤ most
  pub misses : outcomes.misses ≤ most
  pub write_backs : outcomes.write_backs ≤ most

-- each of them can go on by one
abbrev pub CanCount : Outcomes → Type 0
CanCount outcomes = IsWithin (2 ^ 62) outcomes

-- those of all words can go on by so many instructions
pub record CanTake (notes : Notes Outcomes) (more : ℕ) : Type 0 where
  pub most : ℕ
  pub within : Each (IsWithin most) notes.words
  pub countable : most + more < 2 ^ 62
