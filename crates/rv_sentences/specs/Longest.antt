-- The line that stood longest at the head of the reorder buffer, in one sentence.
use Rattle.std.specs.Prelude.{ℕ, ◌==◌, if◌then◌else◌, List, [], ◌++◌, codes, decimal}
use Rattle.std.specs.List.{flat_map}
use Rattle.rv_memory.specs.Memory.{word_of}
use Rattle.rv_source.specs.Listing.{Listed}
use Rattle.rv_source.specs.PlaceText.{place_text}
use Rattle.rv_sentences.specs.Drained.{stores_at}
use Rattle.rv_sentences.specs.OutcomeText.{loads_aside, stores_aside}
use Rattle.rv_sentences.specs.GreatestLines.{greatest_lines, line_counts}
use Rattle.rv_sentences.specs.WordCount.{count_in}
use Rattle.rv_sentences.specs.WordNotes.{Notes, note_at}
use Rattle.rv_sentences.specs.declared.{outcomes.Outcomes.Outcomes, counted_line.CountedLine.CountedLine}
use Rattle.rv_sentences.specs.declared.{store_counts.StoreCounts.StoreCounts}

-- so many branches and jumps that retired, in brackets, and how many of them were mispredicted
unfoldable pub counted_branches : ℕ → ℕ → List ℕ
counted_branches retired mispredicted =
    codes " (its branches and jumps: "
    ++ (decimal retired ++ (codes ", of them " ++ (decimal mispredicted ++ codes " mispredicted)")))

-- the same, if there are any
unfoldable pub branches_aside : ℕ → ℕ → List ℕ
branches_aside retired mispredicted = if retired == 0 then [] else counted_branches retired mispredicted

-- a line at the head: after how many of all cycles, its loads, its stores, its branches and jumps, and where it is
unfoldable pub longest_line : Listed → ℕ → Notes Outcomes → StoreCounts → Notes ℕ → Notes ℕ → CountedLine → List ℕ
longest_line listing all outcomes stores branches mispredicted line =
    let word = word_of line.address in
    codes "Longest at the head of the reorder buffer, or had flushed it, for " ++
    (decimal line.count ++ (codes " of " ++ (decimal all ++ (codes " cycles" ++
    (loads_aside (note_at outcomes word) ++ (stores_aside (stores_at stores word) ++
    (branches_aside (count_in (line_counts listing branches) word) (count_in (line_counts listing mispredicted) word) ++
    (codes ": " ++ place_text listing line.address))))))))

-- the line that stood longest there, if one did, or had flushed it, by the cycles on account of each word
unfoldable pub longest_text : Listed → ℕ → Notes ℕ → Notes Outcomes → StoreCounts → Notes ℕ → Notes ℕ → List ℕ
longest_text listing all heads outcomes stores branches mispredicted =
    flat_map (longest_line listing all outcomes stores branches mispredicted) (greatest_lines listing 1 heads)
